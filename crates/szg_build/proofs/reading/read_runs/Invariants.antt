use Rattle.std.proofs.Common.{ℕ, ◌≡◌, ◌+◌, ◌≤◌, length}
use Rattle.szg_build.specs.Grammar.{run_values}
use Rattle.szg_build.specs.Held.{held_of}
use Rattle.szg_build.specs.Packed.{values_held}
use Rattle.szg_build.proofs.Readers.GoingLaws.{GoesOn, runs_left}
use Rattle.szg_build.proofs.reading.read_runs.Given as goal

-- the runs so far were read, and the others are left
abbrev pub invariant-runs : goal.invariant-runs
invariant-runs g l =
    (most : ℕ) × (l.left ≤ most) × GoesOn (run_values l.count l.count) (runs_left (values_held l.values) most l.left) l.fn.incoming l.incoming g.R.Input l.fn.input l.input
    × (length (held_of l.incoming) ≤ l.following) × (length (values_held l.values) + l.left ≡ l.count)

abbrev pub decreases-runs : goal.decreases-runs
decreases-runs g l = l.left
