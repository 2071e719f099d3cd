-- The index of a table: which subtables it has, with their flags and maps.
use Rattle.std.specs.Prelude.{ℕ, ◌≡◌, ◌<◌, ◌≤◌, ◌&&◌, nat_eq, ℤ, List, [], length, map, position, slice_get, unwrap_or, Option, Some, None, IsSomeAnd, option_and_then}
use Rattle.szg_values.specs.declared.Kind.{Kind}
use Rattle.szg_values.specs.declared.Kind.TheVariants.{Dtz}
use Rattle.szg_values.specs.Material.{Sides}
use Rattle.szg_count.specs.Groups.{IsPart as IsPartNumber, Nibbles, nibbles_of, order_fault}
use Rattle.szg_count.specs.Grouped.{AreGroupsOf}
use Rattle.szg_count.specs.declared.side_groups.SideGroups.{SideGroups}
use Rattle.szg_file.specs.Accepted.{SideBySide, IsPart}
use Rattle.szg_file.specs.Contents.{Contents, Part, Map, Slot, Subtable, slots, part_numbers}
use Rattle.szg_file.specs.File.{flags_of}
use Rattle.szg_file.specs.Values.{item, list_number, number_at}

-- material and kind, the bytes of the parts, the flags of the subtables in file order, and the maps
pub record Index : Type 0 where
  pub material : Sides
  pub kind : Kind
  pub parts : List Part
  pub flags : List ℕ
  pub maps : List (Option Map)

abbrev pub index_with : Sides → Kind → List Part → List ℕ → List (Option Map) → Index
index_with material kind parts flags maps = record { material = material; kind = kind; parts = parts; flags = flags; maps = maps }

-- the index of a table
abbrev pub index_of : Contents → Index
index_of t = index_with t.material t.kind t.parts (map flags_of t.subtables) t.maps

-- the contents with an index and the given byte 4, subtables and last bytes
abbrev pub contents_with : Index → ℕ → List Subtable → List ℕ → Contents
contents_with x byte4 subtables last = record {
  material = x.material;
  kind = x.kind;
  byte4 = byte4;
  parts = x.parts;
  subtables = subtables;
  maps = x.maps;
  last = last;
}

-- the slots of the subtables, in file order
abbrev pub slots_in : Index → List Slot
slots_in x = slots x.material x.kind x.parts

-- the number of the subtable of a part and side, from 0
abbrev pub slot_number : Index → ℕ → ℕ → Option ℕ
slot_number x part side = position (λ slot. nat_eq slot.part part && nat_eq slot.side side) (slots_in x)

-- the slot of a part and side
abbrev pub slot_in : Index → ℕ → ℕ → Option Slot
slot_in x part side = option_and_then (λ n. slice_get (slots_in x) n) (slot_number x part side)

-- the flags of a part and side
abbrev pub flags_in : Index → ℕ → ℕ → Option ℕ
flags_in x part side = option_and_then (λ n. item x.flags n) (slot_number x part side)

-- the distance in plies of value `v` of a part in a class, if it has one
abbrev pub number_in : Index → ℕ → ℤ → ℕ → Option ℕ
number_in x part class v =
    option_and_then (λ list. option_and_then (λ flags. option_and_then (λ lists. number_at flags lists list v) (item x.maps part)) (flags_in x part 0)) (list_number class)

-- each part is accepted, each subtable has flags, and in DTZ each subtable has an item among the maps
pub record IsIndex (x : Index) : Type 0 where
  pub parts_are_valid : SideBySide (λ _. IsPart x.material x.kind) (part_numbers x.material) x.parts
  pub flags_many : length x.flags ≡ length (slots_in x)
  pub maps_many : x.kind ≡ Dtz → length x.maps ≡ length x.flags

-- the subtable of a part and side has number `n` and this slot
pub record IsNumbered (x : Index) (part side n : ℕ) (slot : Slot) : Type 0 where
  pub number_is : slot_number x part side ≡ Some n
  pub slot_is : slice_get (slots_in x) n ≡ Some slot

-- ---- how its subtables number placements

-- the nibbles of a side of a part
abbrev pub nibbles_in_part : List Part → ℕ → ℕ → Nibbles
nibbles_in_part parts part side = let p = unwrap_or (slice_get parts part) (record { order = []; men = [] }) in nibbles_of side p.order p.men

-- the groups of the men of a slot's side of its part
abbrev pub AreSlotGroups : Sides → List Part → Slot → Option SideGroups → Type 0
AreSlotGroups material parts slot groups = IsSomeAnd groups (AreGroupsOf material slot.part (nibbles_in_part parts slot.part slot.side))

-- the slot's part exists, and the nibbles of its side have no fault
pub record IsOrderedSlot (material : Sides) (parts : List Part) (slot : Slot) : Type 0 where
  pub part : slot.part < length parts
  pub is_part : IsPartNumber material slot.part
  pub side : slot.side < 2
  pub few : length (nibbles_in_part parts slot.part slot.side).men ≤ 6
  pub ordered : order_fault material (nibbles_in_part parts slot.part slot.side) ≡ None
