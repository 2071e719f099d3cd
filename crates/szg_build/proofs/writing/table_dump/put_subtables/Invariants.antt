use Rattle.std.proofs.Common.{take, flat_map}
use Rattle.szg_file.specs.Values.{values_of}
use Rattle.szg_build.specs.Built.{subtables_in}
use Rattle.szg_build.specs.Streaming.{Goes}
use Rattle.szg_build.proofs.writing.table_dump.put_subtables.Given as goal

-- the values of the parts and sides so far are taken
abbrev pub invariant-places : goal.invariant-places
invariant-places g l = Goes g.W.Output (flat_map (values_of l.table.contents.kind) (take l.place-index (subtables_in l.table.contents))) l.initial.sink l.initial.output l.sink l.output
