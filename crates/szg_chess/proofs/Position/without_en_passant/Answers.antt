use Rattle.std.proofs.Common.{◌∙◌, ap}
use Rattle.szg_chess.specs.Position.{Position}
use Rattle.szg_chess.proofs.Facts.{position_without}
use Rattle.szg_chess.proofs.Position.without_en_passant.Goals as goal

pub invariant_of-result : goal.invariant_of-result
invariant_of-result c =
    let men = c.copy.ensures ∙ ap (λ (p : Position). p.placed_men) c.self.view_is in
    record {
      position = rw (men, c.mover.ensures) (position_without c.args.self.now c.occupied.ensures.position);
      squares = rw men c.occupied.ensures.squares;
      key_is = rw men c.key.ensures;
      reached_is = rw (men, c.mover.ensures) c.reached.ensures.reached;
    }
