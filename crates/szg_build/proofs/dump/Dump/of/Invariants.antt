use Rattle.std.proofs.Common.{◌≡◌, map, take}
use Rattle.szg_file.specs.Values.{values_of}
use Rattle.szg_build.specs.Built.{subtables_in}
use Rattle.szg_build.proofs.dump.Dump.of.Given as goal

-- the lists of the parts and sides so far
abbrev pub invariant-places : goal.invariant-places
invariant-places l = map (λ list. list.items) l.lists.items ≡ map (values_of l.table.contents.kind) (take l.place-index (subtables_in l.table.contents))
