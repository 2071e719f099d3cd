use Rattle.std.proofs.Common.{◌-◌, ◌≤◌, length, take}
use Rattle.szg_build.specs.Streaming.{Goes}
use Rattle.szg_build.proofs.writing.streaming.add_values.Given as goal

-- the values so far are taken
abbrev pub invariant-runs : goal.invariant-runs
invariant-runs g l = record {
  within : l.from ≤ length l.values;
  goes : Goes g.W.Output (take l.from l.values) l.initial.sink l.initial.output l.sink l.output;
}

abbrev pub decreases-runs : goal.decreases-runs
decreases-runs g l = length l.values - l.from
