use Rattle.std.proofs.Common.{inl, inr}
use Rattle.std.specs.Prelude.{string_bytes}
use Rattle.szg_answers.specs.Fronts.{IsLookUpAnswer, IsLookUpRefused}
use Rattle.szg_answers.proofs.FrontFacts.{looked_up, ok_then}
use Rattle.szg_answers.proofs.fronts.answer_in.Goals as goal

pub returns-in-Ok-opened_front-clause-stated : goal.returns-in-Ok-opened_front-clause-stated
returns-in-Ok-opened_front-clause-stated g c =
    let request = c.args.request.now in
    ok_then c.look_up_line.result _ _
    (λ line stated. looked_up g.S.File.Input request c.args.file c.opened_front.new.file c.in-Ok.size c.in-Ok-opened_front.opened
    (λ content t. IsLookUpAnswer request.action request.part request.side content t (string_bytes line)) (c.in-Ok.ensures.size) c.in-Ok-opened_front.ensures.front stated)
    c.look_up_line.ensures.stated

pub returns-in-Ok-opened_front-clause-refused : goal.returns-in-Ok-opened_front-clause-refused
returns-in-Ok-opened_front-clause-refused g c = λ refusal is.
    let request = c.args.request.now in
    inr
    (
    looked_up g.S.File.Input request c.args.file c.opened_front.new.file c.in-Ok.size c.in-Ok-opened_front.opened
    (λ content t. IsLookUpRefused request.action request.part request.side content t refusal) (c.in-Ok.ensures.size) c.in-Ok-opened_front.ensures.front (c.look_up_line.ensures.refused refusal is)
    )

pub returns-in-Err-Refused-clause-refused : goal.returns-in-Err-Refused-clause-refused
returns-in-Err-Refused-clause-refused g c = λ refusal is. inl (c.in-Ok.size, c.opened_front.new.file, c.in-Ok.ensures.size, c.in-Err-Refused.ensures.refused refusal (cc))
