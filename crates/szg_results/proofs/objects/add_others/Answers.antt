use Rattle.std.proofs.Common.{◌++◌, string_bytes, sym, subst, ap, ◌∙◌}
use Rattle.std.specs.Prelude.{Contains, codes}
use Rattle.szg_chess.specs.Moves.{legal_moves}
use Rattle.szg_results.specs.Objects.{move_object}
use Rattle.szg_results.specs.declared.objects.MoveAfter.{MoveAfter}
use Rattle.szg_results.proofs.ObjectTexts.{next_text}
use Rattle.szg_results.proofs.objects.add_others.Goals as goal

pub add_move-requires : goal.add_move-requires
add_move-requires c =
    let legal = λ (s : MoveAfter). Contains (legal_moves c.args.position.now) s.ranked.m in
    subst legal (sym c.other-item.is) (c.requires c.others.other-index c.other-item.result c.others-test.true)

pub others-preserved : goal.others-preserved
others-preserved c =
    let p = c.args.position.now in
    let text = string_bytes c.others.text in
    let there = ap (λ (s : MoveAfter). text ++ (codes "," ++ move_object p s)) c.other-item.is in
    next_text p c.args.others.now c.others.other-index c.other-item.result (string_bytes c.args.text.now) text (string_bytes c.add_move.new.text) c.others-test.true c.others.invariant
    (c.in_ok-add_move.ensures ∙ there)
