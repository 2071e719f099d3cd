use Rattle.std.proofs.Common.{◌≡◌, length}
use Rattle.szg_subtable.specs.Pairing.{values_below}
use Rattle.szg_subtable.proofs.pairing.leaves.count_different.Given as goal

-- the number of marks set so far
abbrev pub invariant-loop-marked : goal.invariant-loop-marked
invariant-loop-marked l = l.count ≡ length (values_below l.marked-index l.values)
