use Rattle.std.proofs.Common.{◌≡◌, ◌++◌, take}
use Rattle.szg_values.specs.Men.{is_color, other_color}
use Rattle.szg_chess.specs.Attacks.{attacks}
use Rattle.szg_chess.specs.Moves.{moves_if, is_legal}
use Rattle.szg_chess.proofs.Pushing.{passed}
use Rattle.szg_chess.proofs.Position.push_captures_of_men.Given as goal

abbrev pub invariant-loop-other : goal.invariant-loop-other
invariant-loop-other g l = l.moves.items ≡ l.initial.moves.items ++ passed (is_legal l.self) (λ t. moves_if (attacks l.self.placed_men l.man t.2) l.man t.2) (λ t. is_color (other_color l.self.mover) t.1) (take l.other-index l.men)
