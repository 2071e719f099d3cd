use Rattle.std.proofs.Common.{◌∙◌, ap, sym, Bool}
use Rattle.std.specs.Prelude.{◌&&◌}
use Rattle.std.specs.List.{list_any}
use Rattle.std.proofs.lemmas.Bool.{and_from}
use Rattle.std.proofs.lemmas.List.Folds.{list_any_at}
use Rattle.std.proofs.lemmas.List.{take_all}
use Rattle.szg_values.specs.Men.{is_color}
use Rattle.szg_values.specs.Placement.{PlacedMan}
use Rattle.szg_chess.specs.Moves.{is_legal, quiet_moves_by, quiet_moves_of}
use Rattle.szg_chess.proofs.Found.{any_passed, quiet_law}
use Rattle.szg_chess.proofs.Position.has_quiet_move.Goals as goal

pub returns-then-has_quiet_move_by : goal.returns-then-has_quiet_move_by
unfolding quiet_moves_of
returns-then-has_quiet_move_by c =
    let p = c.args.self.now in let men = c.men-man-items.result.now in
    let own : PlacedMan → Bool = λ s. is_color p.mover s.1 in
    let test : PlacedMan → Bool = λ s. own s && list_any (is_legal p) (quiet_moves_by p.placed_men s) in
    let here = and_from (own c.man-item.result) (list_any (is_legal p) (quiet_moves_by p.placed_men c.man-item.result)) (sym c.is_own.ensures ∙ c.if-is_own.true) (sym c.has_quiet_move_by.ensures ∙ c.if-has_quiet_move_by.true) in
    let some = list_any_at test men c.loop-man.man-index c.man-item.result c.loop-man-test.true (ap test (sym c.man-item.is) ∙ here) in
    sym (sym (quiet_law p c.men-man-items.ensures.position) ∙ any_passed (is_legal p) (quiet_moves_by p.placed_men) own p.placed_men ∙ ap (list_any test) (sym c.men-man-items.ensures.men) ∙ some)

pub returns : goal.returns
unfolding quiet_moves_of
returns c =
    let p = c.args.self.now in let men = c.men-man-items.result.now in
    let own : PlacedMan → Bool = λ s. is_color p.mover s.1 in
    let test : PlacedMan → Bool = λ s. own s && list_any (is_legal p) (quiet_moves_by p.placed_men s) in
    let whole = ap (list_any test) (take_all c.loop-man.man-index men c.loop-man-test.false) in
    sym (sym (quiet_law p c.men-man-items.ensures.position) ∙ any_passed (is_legal p) (quiet_moves_by p.placed_men) own p.placed_men ∙ ap (list_any test) (sym c.men-man-items.ensures.men) ∙ sym whole ∙ c.loop-man.invariant)
