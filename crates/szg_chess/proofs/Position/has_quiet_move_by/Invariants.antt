use Rattle.std.proofs.Common.{◌≡◌, ◌-◌, ◌<◌, ◌≤◌, ℕ, false}
use Rattle.std.specs.List.{list_any}
use Rattle.szg_chess.specs.Moves.{moves_if, may_enter, is_legal}
use Rattle.szg_chess.proofs.Position.has_quiet_move_by.Given as goal

abbrev pub invariant-loop-to : goal.invariant-loop-to
invariant-loop-to l = (l.to ≤ 64) × ((to : ℕ) → to < l.to → list_any (is_legal l.self) (moves_if (may_enter l.self.placed_men l.man to) l.man to) ≡ false)

abbrev pub decreases-loop-to : goal.decreases-loop-to
decreases-loop-to l = 64 - l.to
