-- How the subtables of a table number their placements.
use Rattle.std.specs.Prelude.{◌≡◌, ℕ, ◌%◌, ◌<◌, Bool, true, false, List, length, slice_index, IsNone, if◌then◌else◌}
use Rattle.szg_values.specs.Material.{Sides, has_pawns, is_symmetric, IsMaterial}
use Rattle.szg_values.specs.declared.Kind.{Kind}
use Rattle.szg_values.specs.declared.Kind.TheVariants.{Wdl, Dtz}
use Rattle.szg_count.specs.Groups.{Nibbles, order_fault}
use Rattle.szg_file.specs.Contents.{Part}
use Rattle.szg_file.specs.Index.{nibbles_in_part}

-- a table's kind and material, the bytes of each part, and in DTZ the flags of each part's subtable
pub record Layout : Type 0 where
  pub kind : Kind
  pub material : Sides
  pub parts : List Part
  pub flags : List ℕ

abbrev pub is_dtz : Kind → Bool
is_dtz Wdl = false
is_dtz Dtz = true

-- the layout with this kind and material, and these parts and flags
abbrev pub layout_in : Kind → Sides → List Part → List ℕ → Layout
layout_in kind material parts flags = record { kind = kind; material = material; parts = parts; flags = flags }

-- the nibbles of a side of a part
abbrev pub nibbles_at : Layout → ℕ → ℕ → Nibbles
nibbles_at l part side = nibbles_in_part l.parts part side

-- the number of a part's subtables: in WDL two, or one if both sides have the same men; in DTZ one
abbrev pub side_count : Layout → ℕ
side_count l = if is_dtz l.kind then 1 else if is_symmetric l.material then 1 else 2

abbrev pub part_count : Layout → ℕ
part_count l = if has_pawns l.material then 4 else 1

-- the side to move whose values a DTZ subtable stores: the lowest bit of its flags
abbrev pub stored_side : Layout → ℕ → ℕ
stored_side l part = slice_index l.flags part % 2

-- there are as many parts as the material requires, and each side of each part has valid order nibbles and men
pub record IsLayout (l : Layout) : Type 0 where
  pub material : IsMaterial l.material
  pub parts : length l.parts ≡ part_count l
  pub ordered : (part side : ℕ) → part < part_count l → side < side_count l → IsNone (order_fault l.material (nibbles_at l part side))
