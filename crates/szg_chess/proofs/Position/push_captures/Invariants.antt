use Rattle.std.proofs.Common.{◌≡◌, ◌++◌, take}
use Rattle.szg_values.specs.Men.{is_color}
use Rattle.szg_chess.specs.Moves.{captures_by, is_legal}
use Rattle.szg_chess.proofs.Pushing.{passed}
use Rattle.szg_chess.proofs.Position.push_captures.Given as goal

abbrev pub invariant-loop-man : goal.invariant-loop-man
invariant-loop-man g l = l.moves.items ≡ l.initial.moves.items ++ passed (is_legal l.self) (captures_by l.self) (λ s. is_color l.self.mover s.1) (take l.man-index l.man-items)
