use Rattle.std.proofs.Common.{◌≡◌, ◌++◌, ◌-◌, ◌≤◌, filter, flat_map}
use Rattle.std.specs.List.{range_with_len}
use Rattle.szg_chess.specs.Moves.{moves_if, may_enter, is_legal}
use Rattle.szg_chess.proofs.Position.push_quiet_moves_by.Given as goal

abbrev pub invariant-loop-number : goal.invariant-loop-number
invariant-loop-number g l = (l.number ≤ 64) × (l.moves.items ≡ l.initial.moves.items ++ filter (is_legal l.self) (flat_map (λ to. moves_if (may_enter l.self.placed_men l.man to) l.man to) (range_with_len 0 l.number)))

abbrev pub decreases-loop-number : goal.decreases-loop-number
decreases-loop-number g l = 64 - l.number
