use Rattle.std.proofs.Common.{◌≡◌, ℕ, List, ◌++◌}
use Rattle.szg_build.specs.Streaming.{Goes}
use Rattle.szg_build.proofs.writing.table_dump.put_stored.Given as goal

-- the values so far are taken, and the others are left
abbrev pub invariant-each : goal.invariant-each
invariant-each g l = record {
  done : List ℕ;
  whole : done ++ l.blocks.values ≡ l.initial.blocks.values;
  goes : Goes g.W.Output done l.initial.sink l.initial.output l.sink l.output;
}

abbrev pub decreases-each : goal.decreases-each
decreases-each g l = l.blocks.blocks
