-- The view of an opened table, and its invariant.
use Rattle.std.specs.Prelude.{ℕ, ◌≡◌, ◌^◌, List, length, map, Option, Some, None, option_and_then}
use Rattle.std.specs.List.{AllByRecursion}
use Rattle.szg_values.specs.Material.{Sides}
use Rattle.szg_values.specs.declared.Kind.{Kind}
use Rattle.szg_block.specs.BlocksTrait.{raised}
use Rattle.szg_file.specs.Accepted.{IsAccepted}
use Rattle.szg_file.specs.Contents.{Contents, Slot, slots, Subtable, constant, pairs}
use Rattle.szg_file.specs.File.{file}
use Rattle.szg_file.specs.Format.{Verdict, good, refused, truncated, verdict}
use Rattle.szg_file.specs.Index.{Index, index_of}
use Rattle.szg_file.specs.Placed.{whole_sub, Fits}
use Rattle.szg_file.specs.Values.{subtable_at}
use Rattle.szg_file.specs.WholeRead.{Refuses}
use Rattle.szg_file.specs.declared.fault.ReadFault.{ReadFault}
use Rattle.szg_file.specs.declared.fault.ReadFault.TheVariants as fault
use Rattle.szg_file.specs.declared.opened.OpenFault.{OpenFault}
use Rattle.szg_file.specs.declared.opened.OpenFault.TheVariants.{Refused, Source, Memory}
use Rattle.szg_file.specs.declared.reading.dropping.PlacedSub.{PlacedSub}

-- the material and kind, the source's bytes, and the source's counts
pub record Opened : Type 0 where
  pub material : Sides
  pub kind : Kind
  pub content : List ℕ
  pub failed : ℕ
  pub requested : ℕ

-- the table of a verdict
abbrev pub table_of : Verdict Contents → Option Contents
table_of (good t filled rest) = Some t
table_of (refused place reason rest) = None
table_of (truncated count) = None

-- the table whose file `bytes` begins with
abbrev pub table_in : Sides → Kind → List ℕ → Option Contents
table_in material kind bytes = table_of (verdict (file material kind) 0 bytes)

-- the table that was opened
abbrev pub opened_table : Opened → Option Contents
opened_table o = table_in o.material o.kind o.content

-- the subtable of a part and side of the table that was opened
abbrev pub opened_at : Opened → ℕ → ℕ → Option (Slot × Subtable)
opened_at o part side = option_and_then (λ t. subtable_at t part side) (table_in o.material o.kind o.content)

-- the number of bytes requested once a value was returned: one block's bytes more, none more for a constant subtable
abbrev pub requested_after : Subtable → ℕ → ℕ
requested_after (constant flags byte) requested = requested
requested_after (pairs head sparse lengths packed) requested = raised requested (2 ^ head.block_bits)

-- a fault of reading, converted to one of opening
abbrev pub opened_fault : ReadFault → OpenFault
opened_fault (fault.Refused place reason) = Refused place reason
opened_fault fault.Device = Source
opened_fault fault.Memory = Memory

-- a refusal is the one of the verdict
abbrev pub IsOpenRefusal : Verdict Contents → OpenFault → Type 0
IsOpenRefusal v (Refused place reason) = Refuses v place reason
IsOpenRefusal v Source = Unit {0}
IsOpenRefusal v Memory = Unit {0}

-- the slots and subtables of the table whose file `content` begins with
pub record IsOpened (material : Sides) (kind : Kind) (content : List ℕ) (room : ℕ) (placed : List Slot) (subs : List PlacedSub) : Type 0 where
  pub table : Contents
  pub filled : List ℕ
  pub there : table_in material kind content ≡ Some table
  pub accepted : IsAccepted table filled
  pub slots_are : placed ≡ slots table.material table.kind table.parts
  pub subs_are : map (whole_sub content) subs ≡ table.subtables
  pub fits : AllByRecursion (Fits (length content) room) subs

-- a table of this material and kind that every check of the format accepts
pub record IsTableOf (material : Sides) (kind : Kind) (table : Contents) : Type 0 where
  pub filled : List ℕ
  pub accepted : IsAccepted table filled
  pub material_is : table.material ≡ material
  pub kind_is : table.kind ≡ kind

-- the index of the table whose file `content` begins with
pub record IsIndexIn (x : Index) (content : List ℕ) : Type 0 where
  pub table : Contents
  pub there : table_in x.material x.kind content ≡ Some table
  pub is_valid : IsTableOf x.material x.kind table
  pub index_is : x ≡ index_of table
