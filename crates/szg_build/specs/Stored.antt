-- The values of a table in memory.
use Rattle.std.specs.Prelude.{ℕ, List, replicate}
use Rattle.std.specs.List.{flat_map}
use Rattle.szg_file.specs.Contents.{Contents}
use Rattle.szg_file.specs.Values.{values_of}
use Rattle.szg_build.specs.Built.{subtables_in}
use Rattle.szg_build.specs.declared.writing.stored.StoredValues.{StoredValues}
use Rattle.szg_build.specs.declared.writing.stored.StoredValues.TheVariants.{Same, Blocks}

-- all values of a subtable
abbrev pub shown_values : StoredValues → List ℕ
shown_values (Same value count) = replicate count value
shown_values (Blocks left) = left.values

-- the values of all subtables of a table, in file order
abbrev pub all_values : Contents → List ℕ
all_values t = flat_map (values_of t.kind) (subtables_in t)
