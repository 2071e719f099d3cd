use Rattle.std.proofs.Common.{◌≡◌, map, take}
use Rattle.szg_file.specs.File.{flags_of as flags_byte}
use Rattle.szg_file.specs.Held.{subtable_of}
use Rattle.szg_file.proofs.table_index.index_of_placed.Given as goal

abbrev pub invariant-loop-placed : goal.invariant-loop-placed
invariant-loop-placed l = l.flags.items ≡ map (λ placed. flags_byte (subtable_of placed.sub)) (take l.placed-index l.subs)
