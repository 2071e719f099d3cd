use Rattle.std.proofs.Common.{◌≡◌, ◌+◌, ◌≤◌, ◌++◌, length}
use Rattle.arrayvec.specs.ArrayVec.{array_vec_len}
use Rattle.szg_count.specs.Steps.{run_lengths}
use Rattle.szg_count.proofs.cut.push_runs.Given as goal

abbrev pub invariant-loop-man : goal.invariant-loop-man
invariant-loop-man l = record {
  all : l.lengths.items ++ run_lengths l.rest ≡ l.initial.lengths.items ++ run_lengths l.men;
  room : array_vec_len l.lengths + length l.rest ≤ 6;
}

abbrev pub decreases-loop-man : goal.decreases-loop-man
decreases-loop-man l = length l.rest
