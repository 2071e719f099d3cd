use Rattle.std.proofs.Common.{◌≡◌, take, false}
use Rattle.std.specs.Prelude.{◌&&◌}
use Rattle.std.specs.List.{list_any}
use Rattle.szg_values.specs.Men.{is_color}
use Rattle.szg_chess.specs.Moves.{quiet_moves_by, is_legal}
use Rattle.szg_chess.proofs.Position.has_quiet_move.Given as goal

abbrev pub invariant-loop-man : goal.invariant-loop-man
invariant-loop-man l = list_any (λ s. is_color l.self.mover s.1 && list_any (is_legal l.self) (quiet_moves_by l.self.placed_men s)) (take l.man-index l.man-items) ≡ false
