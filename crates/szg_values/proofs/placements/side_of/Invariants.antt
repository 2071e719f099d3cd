use Rattle.std.proofs.Common.{◌≡◌}
use Rattle.szg_values.proofs.SideOf.{side_so_far}
use Rattle.szg_values.proofs.placements.side_of.Given as goal

abbrev pub invariant-loop-kind : goal.invariant-loop-kind
invariant-loop-kind l = l.side.items ≡ side_so_far l.color l.men l.kind-index
