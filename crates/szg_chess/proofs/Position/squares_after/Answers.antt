use Rattle.std.proofs.Common.{◌∙◌, ℕ, ap}
use Rattle.szg_chess.specs.Attacks.{is_occupied}
use Rattle.szg_chess.specs.Moves.{men_after}
use Rattle.szg_chess.proofs.AfterMen.{moved}
use Rattle.szg_chess.proofs.Sets.{from_squares}
use Rattle.szg_chess.proofs.SafeMove.{moved_set}
use Rattle.szg_chess.proofs.Position.squares_after.Goals as goal

pub returns-clause-squares : goal.returns-clause-squares
unfolding men_after
returns-clause-squares c =
    let p = c.args.self.now in let m = c.args.m.now in
    from_squares (is_occupied (men_after p m)) c.squares_moved.result c.squares_moved.type_inv
    (λ q h. c.squares_moved.ensures q h
    ∙ moved_set m c.args.captured p.placed_men c.occupied.result c.number.result c.number-2.result c.occupied.ensures.squares c.number.ensures.same c.number-2.ensures.same c.number.ensures.below q h
    ∙ ap (λ (k : ℕ). is_occupied (moved m k p.placed_men) q) c.requires)
