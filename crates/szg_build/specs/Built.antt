-- What a built table is: it has the plan's fields, and the values passed to the builder. The dump of a table.
use Rattle.std.specs.Prelude.{◌≡◌, ℕ, ◌+◌, ◌%◌, List, [], ◌∷◌, map, Option, Some, None, IfSome}
use Rattle.std.specs.List.{AllByRecursion}
use Rattle.szg_values.specs.declared.Kind.TheVariants.{Wdl, Dtz}
use Rattle.szg_block.specs.Layout.{Layout}
use Rattle.szg_file.specs.Contents.{Contents, Slot, slots, Subtable, constant, pairs, layout_of}
use Rattle.szg_file.specs.File.{flags_of}
use Rattle.szg_file.specs.Values.{slotted, values_of}
use Rattle.szg_build.specs.Plan.{Plan}
use Rattle.szg_subtable.specs.Pairing.{IsPaired}
use Rattle.szg_build.specs.Dump.{Dump}

-- the layout of a subtable that is not constant
abbrev pub layout_in : Subtable → Option Layout
layout_in (constant flags byte) = None
layout_in (pairs head sparse lengths packed) = Some (layout_of head sparse lengths)

-- the blocks of a subtable, one after another
abbrev pub packed_in : Subtable → List ℕ
packed_in (constant flags byte) = []
packed_in (pairs head sparse lengths packed) = packed

-- the subtables with their slots, in file order
abbrev pub subtables_in : Contents → List (Slot × Subtable)
subtables_in t = slotted (slots t.material t.kind t.parts) t.subtables

-- the values of all subtables, in file order
abbrev pub value_lists : Contents → List (List ℕ)
value_lists t = map (values_of t.kind) (subtables_in t)

-- the flags 1, 2, 4, 8 and 16 of a DTZ table's parts; a WDL table has none
abbrev pub plan_flags : Contents → List ℕ
plan_flags t = elim t.kind [ Wdl ↦ [] | Dtz ↦ map (λ subtable. flags_of subtable % 32) t.subtables ]

-- the flags byte of a subtable with these flags: plus 128 if it is constant
abbrev pub flags_byte : ℕ → Subtable → ℕ
flags_byte flags (constant _ byte) = flags + 128
flags_byte flags (pairs head sparse lengths packed) = flags

-- the flags bytes of subtables, one after another; missing flags are 0, as all are in WDL
abbrev pub flags_bytes : List ℕ → List Subtable → List ℕ
flags_bytes flags [] = []
flags_bytes [] (subtable ∷ subtables) = flags_byte 0 subtable ∷ flags_bytes [] subtables
flags_bytes (first ∷ flags) (subtable ∷ subtables) = flags_byte first subtable ∷ flags_bytes flags subtables

-- a subtable that is not constant has the plan's block bits and span bits, and at most as many pairs as the plan has
-- rounds, as IsPaired says
abbrev pub IsPacked : Plan → Slot × Subtable → Type 0
IsPacked plan pair = IfSome (layout_in pair.1) (λ layout.
    (layout.block_bits ≡ plan.block_bits) × (layout.span_bits ≡ plan.span_bits)
    × IsPaired layout (packed_in pair.1) pair.0.size plan.rounds)

pub record IsBuilt (plan : Plan) (lists : List (List ℕ)) (t : Contents) : Type 0 where
  pub material : t.material ≡ plan.material
  pub kind : t.kind ≡ plan.kind
  pub parts : t.parts ≡ plan.parts
  pub flags : plan_flags t ≡ plan.flags
  pub bytes : map flags_of t.subtables ≡ flags_bytes plan.flags t.subtables
  pub maps : t.maps ≡ plan.maps
  pub last : t.last ≡ plan.last
  pub packed : AllByRecursion (IsPacked plan) (subtables_in t)
  pub values : value_lists t ≡ lists

-- a subtable that is not constant has pairs as IsPaired says, for some number of rounds
abbrev pub IsSmallPacked : Slot × Subtable → Type 0
IsSmallPacked pair = IfSome (layout_in pair.1) (λ layout. (rounds : ℕ) × IsPaired layout (packed_in pair.1) pair.0.size rounds)

-- a built table whose subtables are packed by numbers that the builder chose; those of the plan do not matter
pub record IsBuiltSmall (plan : Plan) (lists : List (List ℕ)) (t : Contents) : Type 0 where
  pub material : t.material ≡ plan.material
  pub kind : t.kind ≡ plan.kind
  pub parts : t.parts ≡ plan.parts
  pub flags : plan_flags t ≡ plan.flags
  pub bytes : map flags_of t.subtables ≡ flags_bytes plan.flags t.subtables
  pub maps : t.maps ≡ plan.maps
  pub last : t.last ≡ plan.last
  pub packed : AllByRecursion IsSmallPacked (subtables_in t)
  pub values : value_lists t ≡ lists

-- the dump has the content of a table
pub record IsDumpOf (dump : Dump) (t : Contents) : Type 0 where
  pub material : t.material ≡ dump.material
  pub kind : t.kind ≡ dump.kind
  pub parts : t.parts ≡ dump.parts
  pub flags : plan_flags t ≡ dump.flags
  pub maps : t.maps ≡ dump.maps
  pub last : t.last ≡ dump.last
  pub values : value_lists t ≡ dump.lists

-- the plan from which the table of a dump is built again
abbrev pub dump_plan : Dump → ℕ → ℕ → ℕ → Plan
dump_plan dump block_bits span_bits rounds = record {
  material = dump.material;
  kind = dump.kind;
  parts = dump.parts;
  block_bits = block_bits;
  span_bits = span_bits;
  rounds = rounds;
  flags = dump.flags;
  maps = dump.maps;
  last = dump.last;
}
