-- The steps of a look-up in a table.
use Rattle.std.specs.Prelude.{ℕ, Some, None, []}
use Rattle.szg_block.specs.Subtable.{steps_from}
use Rattle.szg_block.specs.declared.probing.Steps.{Steps}
use Rattle.szg_file.specs.Contents.{Subtable, constant, pairs, layout_of, Slot}

-- the steps to value `i` of a subtable; none in a constant one
abbrev pub steps_in : Subtable → ℕ → Steps
steps_in (constant flags byte) i = steps_from None [] i
steps_in (pairs head sparse lengths packed) i = steps_from (Some (layout_of head sparse lengths)) packed i

abbrev pub steps_of : Slot × Subtable → ℕ → Steps
steps_of pair i = steps_in pair.1 i
