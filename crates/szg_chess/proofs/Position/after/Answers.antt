use Rattle.std.proofs.Common.{◌∙◌, List, ap, subst, sym}
use Rattle.szg_values.specs.Placement.{AreOnBoard, PlacedMan}
use Rattle.szg_chess.specs.Moves.{after}
use Rattle.szg_chess.specs.Squares.{reached_of}
use Rattle.szg_chess.proofs.AfterMove.{after_is_position}
use Rattle.szg_chess.proofs.Position.after.Goals as goal

pub reached_by-reached-requires : goal.reached_by-reached-requires
unfolding after
reached_by-reached-requires c =
    let position = after_is_position c.args.self.now c.args.m c.men_after-men.ensures.position c.requires in
    subst AreOnBoard (sym (c.as_slice.ensures.elements ∙ c.men_after-men.ensures.men)) position.squares.men

pub invariant_of-result : goal.invariant_of-result
unfolding after
invariant_of-result c = record {
  position = rw (c.men_after-men.ensures.men, c.other_color-mover.ensures, c.mover.ensures, c.passed_square-en_passant.ensures) (after_is_position c.args.self.now c.args.m c.men_after-men.ensures.position c.requires);
  squares = rw c.men_after-men.ensures.men c.squares_after-occupied.ensures.squares;
  key_is = rw c.men_after-men.ensures.men c.key_after-key.ensures;
  reached_is = c.reached_by-reached.ensures ∙ ap (λ (men : List PlacedMan). reached_of men c.other_color-mover.result) c.as_slice.ensures.elements;
}
