use Rattle.std.proofs.Common.{◌≡◌, ◌++◌, take}
use Rattle.std.specs.Prelude.{◌&&◌}
use Rattle.szg_values.specs.Men.{is_man, is_color}
use Rattle.szg_values.specs.declared.Man.TheVariants.{Pawn}
use Rattle.szg_chess.specs.Moves.{quiet_moves_by, is_legal}
use Rattle.szg_chess.proofs.Pushing.{passed}
use Rattle.szg_chess.proofs.Position.push_pawn_moves.Given as goal

abbrev pub invariant-loop-man : goal.invariant-loop-man
invariant-loop-man g l = l.moves.items ≡ l.initial.moves.items ++ passed (is_legal l.self) (quiet_moves_by l.self.placed_men) (λ s. is_color l.self.mover s.1 && is_man Pawn s.0) (take l.man-index l.man-items)
