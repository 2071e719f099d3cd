-- What a table is built from, and the first fault in it.
use Rattle.std.specs.Prelude.{ℕ, ◌^◌, ◌==◌, ◌&&◌, not, nat_lt, nat_le, Bool, true, false, List, [], ◌∷◌, length, map, Option, Some, None, is_none, option_map, position, if◌then◌else◌}
use Rattle.std.specs.List.{list_any, list_all, zip}
use Rattle.szg_values.specs.Material.{Sides, man_codes}
use Rattle.szg_values.specs.declared.Kind.{Kind}
use Rattle.szg_values.specs.declared.Kind.TheVariants.{Wdl, Dtz}
use Rattle.szg_count.specs.Groups.{order_fault}
use Rattle.szg_file.specs.Contents.{Part, Map, narrow, wide, has_bit, part_numbers, side_numbers, order_bytes, order_of, slots}
use Rattle.szg_subtable.specs.Pairing.{different_values}
use Rattle.szg_build.specs.declared.BuildFault.{BuildFault}
use Rattle.szg_build.specs.declared.BuildFault.TheVariants as fault

pub record Plan : Type 0 where
  pub material : Sides
  pub kind : Kind
  pub parts : List Part
  pub block_bits : ℕ
  pub span_bits : ℕ
  pub rounds : ℕ
  pub flags : List ℕ
  pub maps : List (Option Map)
  pub last : List ℕ

-- ---- the parts

-- a part has the right numbers of order bytes and of men, and its order passes the checks of a file on each side
abbrev pub is_part : Sides → Kind → Part → Bool
is_part material kind part =
    (length part.order == order_bytes material)
    && (length part.men == length (man_codes material))
    && list_all (λ side. is_none (order_fault material (order_of side part))) (side_numbers material kind)

-- the parts are those of the material, and each is valid
abbrev pub has_parts : Sides → Kind → List Part → Bool
has_parts material kind parts =
    (length parts == length (part_numbers material))
    && list_all (is_part material kind) parts

-- the sizes of the subtables, in their order, if the parts are valid
unfoldable pub sizes_if_valid : Sides → Kind → List Part → Option (List ℕ)
sizes_if_valid material kind parts =
    if has_parts material kind parts then Some (map (λ slot. slot.size) (slots material kind parts)) else None

-- ---- the values

-- the greatest value: 4 in WDL, 4,095 in DTZ
abbrev pub greatest_value : Kind → ℕ
greatest_value Wdl = 4
greatest_value Dtz = 4095

-- the first list whose length is not its subtable's size
abbrev pub wrong_length : List ℕ → List (List ℕ) → Option ℕ
wrong_length sizes lists = position (λ pair. not (length pair.1 == pair.0)) (zip sizes lists)

-- the first list with a value that is too great
abbrev pub wrong_value : Kind → List (List ℕ) → Option ℕ
wrong_value kind lists = position (λ list. list_any (λ v. nat_lt (greatest_value kind) v) list) lists

-- the first list with more than 4,095 different values
abbrev pub too_many_values : List (List ℕ) → Option ℕ
too_many_values lists = position (λ list. nat_lt 4095 (length (different_values list))) lists

-- ---- flags and maps

-- there is a map exactly with flag 2, a wide one exactly with flag 16, and no list is too long for its length field
abbrev pub is_map_of : ℕ × Option Map → Bool
is_map_of (flags, None) = not (has_bit 1 flags)
is_map_of (flags, Some (narrow lists)) = has_bit 1 flags && not (has_bit 4 flags) && list_all (λ list. nat_lt (length list) (2 ^ 8)) lists
is_map_of (flags, Some (wide lists)) = has_bit 1 flags && has_bit 4 flags && list_all (λ list. nat_lt (length list) (2 ^ 16)) lists

-- DTZ has flags (1, 2, 4, 8, 16) and a map or none for each part, WDL has none
abbrev pub has_maps : Plan → Bool
has_maps plan = elim plan.kind [
  | Wdl ↦ (length plan.flags == 0) && (length plan.maps == 0)
  | Dtz ↦ (length plan.flags == length (part_numbers plan.material))
      && (length plan.maps == length (part_numbers plan.material))
      && list_all (λ flags. nat_lt flags 32) plan.flags
      && list_all is_map_of (zip plan.flags plan.maps)
]

-- ---- refusals

abbrev pub unless : Bool → BuildFault → Option BuildFault
unless true fault = None
unless false fault = Some fault

abbrev pub first_fault : List (Option BuildFault) → Option BuildFault
first_fault [] = None
first_fault (None ∷ others) = first_fault others
first_fault (Some fault ∷ others) = Some fault

-- the first fault that applies, by the sizes of the subtables; these are None if the parts are not valid
unfoldable pub fault_for : Option (List ℕ) → Plan → List (List ℕ) → Option BuildFault
fault_for None plan lists = Some fault.Order
fault_for (Some sizes) plan lists = first_fault (
    unless (nat_le 5 plan.block_bits && nat_le plan.block_bits 10 && nat_le 1 plan.span_bits && nat_le plan.span_bits 16) fault.Bits
    ∷ unless (nat_le plan.rounds 4000) fault.Rounds
    ∷ unless (length lists == length sizes) fault.Count
    ∷ option_map fault.Length (wrong_length sizes lists)
    ∷ option_map fault.Value (wrong_value plan.kind lists)
    ∷ option_map fault.TooManyValues (too_many_values lists)
    ∷ unless (has_maps plan) fault.Map
    ∷ [])

unfoldable pub build_fault : Plan → List (List ℕ) → Option BuildFault
build_fault plan lists = fault_for (sizes_if_valid plan.material plan.kind plan.parts) plan lists
