use Rattle.std.proofs.Common.{◌∙◌}
use Rattle.std.specs.Prelude.{string_bytes}
use Rattle.szg_answers.specs.Fronts.{IsLookUpAnswer, IsLookUpRefused}
use Rattle.szg_words.specs.declared.request.Action.TheVariants.{Index}
use Rattle.szg_words.specs.declared.request.AskedClass.TheVariants.{Win}
use Rattle.szg_answers.proofs.FrontFacts.{ok_then, spot_refused, spot_of_fetched, unfetched}
use Rattle.szg_answers.proofs.fronts.look_up_line.Goals as goal

pub returns-in-Get-clause-stated : goal.returns-in-Get-clause-stated
returns-in-Get-clause-stated g c = rw (c.in-Get.is) (c.get_line.ensures.stated)

pub returns-in-Get-clause-refused : goal.returns-in-Get-clause-refused
returns-in-Get-clause-refused g c = λ refusal is. rw (c.in-Get.is) (c.get_line.ensures.refused refusal is)

pub returns-in-Index-clause-stated : goal.returns-in-Index-clause-stated
returns-in-Index-clause-stated g c =
    let kept = c.args.opened.now.front in let x = c.index.result.now in let board = c.in-Index.placement in
    rw (c.in-Index.is)
    (
    ok_then c.index_line.result _ _
    (λ line stated. unfetched g.S.File.Input c.args.file kept c.args.opened.now.read c.args.opened.now.front.length
    (λ content t. IsLookUpAnswer (Index board) c.args.request.now.part c.args.request.now.side content t (string_bytes line)) c.requires.room
    (λ content h. spot_of_fetched x board Win h.table (c.index.ensures ∙ h.index_is) (string_bytes line) stated))
    c.index_line.ensures.stated
    )

pub returns-in-Index-clause-refused : goal.returns-in-Index-clause-refused
returns-in-Index-clause-refused g c = λ refusal is.
    let kept = c.args.opened.now.front in let x = c.index.result.now in let board = c.in-Index.placement in
    rw (c.in-Index.is)
    (
    unfetched g.S.File.Input c.args.file kept c.args.opened.now.read c.args.opened.now.front.length
    (λ content t. IsLookUpRefused (Index board) c.args.request.now.part c.args.request.now.side content t refusal) c.requires.room
    (λ content h. spot_refused x board Win h.table (c.index.ensures ∙ h.index_is) refusal (c.index_line.ensures.refused refusal is))
    )

pub returns-in-Probe-clause-stated : goal.returns-in-Probe-clause-stated
returns-in-Probe-clause-stated g c =
    rw (c.in-Probe.is) (ok_then c.probe_line.result _ _ (λ line stated. stated c.args.request.now.part c.args.request.now.side) c.probe_line.ensures.stated)

pub returns-in-Probe-clause-refused : goal.returns-in-Probe-clause-refused
returns-in-Probe-clause-refused g c = λ refusal is. rw (c.in-Probe.is) (c.probe_line.ensures.refused refusal is c.args.request.now.part c.args.request.now.side)

pub returns-in-Show-clause-stated : goal.returns-in-Show-clause-stated
returns-in-Show-clause-stated g c =
    rw (c.in-Show.is) (ok_then c.show_lines.result _ _ (λ text stated. stated c.args.request.now.part c.args.request.now.side) c.show_lines.ensures.stated)

pub returns-in-Show-clause-refused : goal.returns-in-Show-clause-refused
returns-in-Show-clause-refused g c = λ refusal is. absurd (c.show_lines.ensures.answered refusal is)
