-- A table that is packed as chosen.
use Rattle.std.specs.Prelude.{ℕ, List}
use Rattle.std.specs.List.{AllByRecursion}
use Rattle.szg_file.specs.Contents.{Contents}
use Rattle.szg_subtable.specs.declared.building.Packing.{Packing}
use Rattle.szg_subtable.specs.declared.building.Choice.{Choice}
use Rattle.szg_subtable.specs.declared.building.Choice.TheVariants.{Fixed, Small}
use Rattle.szg_build.specs.Built.{dump_plan, IsBuilt, IsBuiltSmall}
use Rattle.szg_build.specs.Dump.{Dump}
use Rattle.szg_build.specs.Plan.{Plan}
use Rattle.szg_build.specs.Rule.{HasTruncatedBinary}

-- the content of a dump, and how its table is packed
pub record ToBuild : Type 0 where
  pub dump : Dump
  pub choice : Choice

-- the numbers of a choice; those of a small table do not matter
abbrev pub numbers_in : Choice → Packing
numbers_in (Fixed packing) = packing
numbers_in Small = record { block_bits = 5; span_bits = 1; rounds = 0 }

-- the plan from which a dump's table is built by a choice
abbrev pub plan_by : Choice → Dump → Plan
plan_by choice dump = dump_plan dump (numbers_in choice).block_bits (numbers_in choice).span_bits (numbers_in choice).rounds

-- a table built from a plan and lists of values, packed as chosen
abbrev pub IsBuiltAs : Choice → Plan → List (List ℕ) → Contents → Type 0
IsBuiltAs (Fixed packing) plan lists t = IsBuilt plan lists t
IsBuiltAs Small plan lists t = IsBuiltSmall plan lists t

-- with fixed numbers all codes are those of the builder's rule
abbrev pub IsCodedTable : Choice → Contents → Type 0
IsCodedTable (Fixed packing) t = AllByRecursion HasTruncatedBinary t.subtables
IsCodedTable Small t = Unit {0}
