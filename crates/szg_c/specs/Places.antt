-- The results for C of look-ups by placement, and the statuses for C if there is no result.
use Rattle.std.specs.Prelude.{◌≡◌, ℕ, Bool, not, ◌&&◌, ◌||◌, ℤ, pos, neg_ℤ, int_lt, nat_lt, is_some, Option, Some, None, option_and_then, option_map, Result, Ok, Err, if◌then◌else◌}
use Rattle.szg_values.specs.Placement.{Board}
use Rattle.szg_values.specs.declared.Kind.{Kind}
use Rattle.szg_values.specs.declared.Kind.TheVariants.{Wdl, Dtz}
use Rattle.szg_file.specs.Contents.{Contents, Slot}
use Rattle.szg_file.specs.Index.{Index, slot_in}
use Rattle.szg_file.specs.declared.fault.MapFault.{MapFault}
use Rattle.szg_file.specs.declared.fault.MapFault.TheVariants.{Draw, OutsideMap}
use Rattle.szg_place.specs.Layout.{is_dtz}
use Rattle.szg_place.specs.Probes.{as_number}
use Rattle.szg_place.specs.Spots.{board_at, place_fault, placement_refusal, spot_of}
use Rattle.szg_place.specs.Tables.{numbering_in, numbering_of, value_at, class_of, mapped_number}
use Rattle.szg_place.specs.declared.PlaceFault.{PlaceFault}
use Rattle.szg_place.specs.declared.PlaceFault.TheVariants.{OtherMaterial, Irregular, KingsTouch, WrongSide}
use Rattle.szg_place.specs.declared.Spot.{Spot}
use Rattle.szg_c.specs.declared.places.FoundSpot.{FoundSpot}
use Rattle.szg_c_positions.specs.declared.status.TheConstants.{RANGE}

-- ---- statuses: 4 outside the table; 10 to 13 no index; 14 no class; 15 and 16 no distance

abbrev pub place_status : PlaceFault → ℕ
place_status OtherMaterial = 10
place_status Irregular = 11
place_status KingsTouch = 12
place_status WrongSide = 13

abbrev pub map_status : MapFault → ℕ
map_status Draw = 15
map_status OutsideMap = 16

-- ---- indexes

-- a spot, unless a fault rules it out
abbrev pub spot_unless : Option PlaceFault → Spot → Result Spot ℕ
spot_unless None spot = Ok spot
spot_unless (Some why) spot = Err (place_status why)

-- the spot of a placement in a table with this index, if there is a placement
abbrev pub spot_result : Index → Result Board ℕ → Result Spot ℕ
spot_result x (Err status) = Err status
spot_result x (Ok board) = spot_unless (place_fault (numbering_in x) board) (spot_of (numbering_in x) board)

-- the spot that C gets
abbrev pub IsSpot : FoundSpot → Spot → Type 0
IsSpot found spot = (found.part ≡ spot.part) × (found.side ≡ spot.side) × (found.index ≡ spot.index)

-- ---- placements of indexes

-- a slot, if it has this index
abbrev pub with_slot : Option Slot → ℕ → Option Slot
with_slot None i = None
with_slot (Some slot) i = if nat_lt i slot.size then Some slot else None

-- a placement, unless a fault rules it out
abbrev pub placement_unless : Option PlaceFault → Board → Result Board ℕ
placement_unless None board = Ok board
placement_unless (Some why) board = Err (place_status why)

-- the placement of an index of a part's side, if the table has this index
abbrev pub placement_result : Index → ℕ → ℕ → ℕ → Result Board ℕ
placement_result x part side index = if is_some (with_slot (slot_in x part side) index) then
    placement_unless (placement_refusal (numbering_in x) part side) (board_at (numbering_in x) part side index)
    else Err RANGE

-- ---- distances

-- a class is a number from -2 to 2
abbrev pub is_class : ℤ → Bool
is_class class = not (int_lt class (neg_ℤ (pos 2)) || int_lt (pos 2) class)

abbrev pub number_or_status : Result ℕ MapFault → Result ℕ ℕ
number_or_status (Err why) = Err (map_status why)
number_or_status (Ok number) = Ok number

-- the distance of a value of a part in a class
abbrev pub number_result : Index → ℕ → ℤ → ℕ → Result ℕ ℕ
number_result x part class v =
    if is_dtz x.kind && is_class class && is_some (slot_in x part 0) then number_or_status (as_number x part class v) else Err 4

-- ---- outcomes

-- a class, unless a fault refuses the placement or the value is not a class
abbrev pub class_unless : Option PlaceFault → Option ℤ → Result ℤ ℕ
class_unless (Some why) class = Err (place_status why)
class_unless None None = Err 14
class_unless None (Some class) = Ok class

-- a distance, unless a fault refuses the placement or the table's map has none; each placement that is not refused
-- has a value
abbrev pub distance_unless : Option PlaceFault → Option (Result ℕ MapFault) → Result ℤ ℕ
distance_unless (Some why) number = Err (place_status why)
distance_unless None None = Err 4
distance_unless None (Some (Err why)) = Err (map_status why)
distance_unless None (Some (Ok number)) = Ok (pos number)

-- the result for a placement: its class in a WDL table, its distance in a class in a DTZ table
abbrev pub outcome_of : Kind → Contents → ℤ → Board → Result ℤ ℕ
outcome_of Wdl t class board = class_unless (place_fault (numbering_of t) board) (option_and_then class_of (value_at t (spot_of (numbering_of t) board)))
outcome_of Dtz t class board = if is_class class then
    distance_unless (place_fault (numbering_of t) board)
    (option_map (λ v. mapped_number t (spot_of (numbering_of t) board).part class v) (value_at t (spot_of (numbering_of t) board)))
    else Err 4

-- the result for a placement, if there is a placement
abbrev pub outcome_result : Contents → ℤ → Result Board ℕ → Result ℤ ℕ
outcome_result t class (Err status) = Err status
outcome_result t class (Ok board) = outcome_of t.kind t class board
