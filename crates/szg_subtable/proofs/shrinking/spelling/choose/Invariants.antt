use Rattle.std.proofs.Common.{◌≤◌, length}
use Rattle.szg_subtable.proofs.shrinking.spelling.choose.Given as goal

abbrev pub invariant-loop-place : goal.invariant-loop-place
invariant-loop-place l = l.place ≤ length l.leaves

abbrev pub decreases-loop-place : goal.decreases-loop-place
decreases-loop-place l = l.place
