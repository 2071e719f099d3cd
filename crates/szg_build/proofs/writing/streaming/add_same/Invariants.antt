use Rattle.std.proofs.Common.{◌-◌, ◌≤◌, replicate}
use Rattle.szg_build.specs.Streaming.{Goes}
use Rattle.szg_build.proofs.writing.streaming.add_same.Given as goal

-- the values so far are taken
abbrev pub invariant-values : goal.invariant-values
invariant-values g l = record {
  within : l.more ≤ l.count;
  goes : Goes g.W.Output (replicate (l.count - l.more) l.value) l.initial.sink l.initial.output l.sink l.output;
}

abbrev pub decreases-values : goal.decreases-values
decreases-values g l = l.more
