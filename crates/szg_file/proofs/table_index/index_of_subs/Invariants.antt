use Rattle.std.proofs.Common.{◌≡◌, map, take}
use Rattle.szg_file.specs.File.{flags_of as flags_byte}
use Rattle.szg_file.specs.Held.{subtable_of}
use Rattle.szg_file.proofs.table_index.index_of_subs.Given as goal

abbrev pub invariant-loop-sub : goal.invariant-loop-sub
invariant-loop-sub l = l.flags.items ≡ map (λ sub. flags_byte (subtable_of sub)) (take l.sub-index l.subs)
