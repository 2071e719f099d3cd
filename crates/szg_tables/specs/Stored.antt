-- What tables in memory store for men and the side to move.
use Rattle.std.specs.Prelude.{ℕ, ℤ, pos, neg_ℤ, ◌≡◌, ◌==◌, ◌&&◌, ◌^◌, nat_lt, not, Bool, List, find, Option, Some, None, is_none, option_and_then, Result, Ok, Err, if◌then◌else◌}
use Rattle.szg_values.specs.Material.{Sides, is_same_men}
use Rattle.szg_values.specs.Placement.{PlacedMan, Board, material_of}
use Rattle.szg_values.specs.declared.Color.{Color}
use Rattle.szg_values.specs.declared.Kind.{Kind}
use Rattle.szg_values.specs.declared.Kind.TheVariants.{Wdl, Dtz}
use Rattle.szg_file.specs.Contents.{Contents}
use Rattle.szg_file.specs.Held.{Shown}
use Rattle.szg_file.specs.declared.fault.MapFault.{MapFault}
use Rattle.szg_place.specs.Layout.{is_dtz}
use Rattle.szg_place.specs.Spots.{place_fault, spot_of}
use Rattle.szg_place.specs.Tables.{numbering_of, value_at, mapped_number}
use Rattle.szg_place.specs.declared.PlaceFault.{PlaceFault}
use Rattle.szg_place.specs.declared.PlaceFault.TheVariants.{OtherMaterial, Irregular, KingsTouch, WrongSide}
use Rattle.szg_game.specs.declared.Class.{Class}
use Rattle.szg_game.specs.declared.Class.TheVariants.{Loss, BlessedLoss, Draw, CursedWin, Win}
use Rattle.szg_probe.specs.Probing.{StoredClasses}
use Rattle.szg_probe.specs.Distances.{StoredNumbers}
use Rattle.szg_tables.specs.declared.Missing.{Missing}
use Rattle.szg_tables.specs.declared.MissingReason.{MissingReason}
use Rattle.szg_tables.specs.declared.MissingReason.TheVariants.{Table, Place, Value}

abbrev pub board_of : List PlacedMan → Color → Board
board_of men mover = record { placed_men = men; mover = mover }

abbrev pub is_kind : Kind → Kind → Bool
is_kind Wdl k = not (is_dtz k)
is_kind Dtz k = is_dtz k

-- a table of this kind and material
abbrev pub is_for : Kind → Sides → Shown → Bool
is_for kind sides t = is_kind kind t.contents.kind && (is_same_men sides.first t.contents.material.first && is_same_men sides.second t.contents.material.second)

-- the first table of this kind for these men
abbrev pub table_for : Kind → Board → List Shown → Option Shown
table_for kind board tables = find (is_for kind (material_of board.placed_men)) tables

-- the value of a placement in a table. None if the table has no index for it.
abbrev pub value_in : Board → Contents → Option ℕ
value_in board t = if is_none (place_fault (numbering_of t) board) then value_at t (spot_of (numbering_of t) board) else None

-- the class of a WDL value. None if it is above 4.
abbrev pub class_of_value : ℕ → Option Class
class_of_value v =
    if v == 0 then Some Loss else
    if v == 1 then Some BlessedLoss else
    if v == 2 then Some Draw else
    if v == 3 then Some CursedWin else
    if v == 4 then Some Win else None

-- the class of a placement in a WDL table
abbrev pub class_in : Board → Contents → Option Class
class_in board t = option_and_then class_of_value (value_in board t)

abbrev pub stored_classes : List Shown → StoredClasses
stored_classes tables men mover = option_and_then (λ t. class_in (board_of men mover) t.contents) (table_for Wdl (board_of men mover) tables)

-- a class as the format numbers it
abbrev pub number_of_class : Class → ℤ
number_of_class Loss = neg_ℤ (pos 2)
number_of_class BlessedLoss = neg_ℤ (pos 1)
number_of_class Draw = pos 0
number_of_class CursedWin = pos 1
number_of_class Win = pos 2

abbrev pub is_few : Result ℕ MapFault → Option (Option ℕ)
is_few (Err fault) = None
is_few (Ok n) = if nat_lt n (2 ^ 31) then Some (Some n) else None

-- the number of a placement in a class, in a table that has an index for it
abbrev pub mapped_in : Board → Class → Contents → Option (Option ℕ)
mapped_in board k t =
    let spot = spot_of (numbering_of t) board in
    option_and_then (λ v. is_few (mapped_number t spot.part (number_of_class k) v)) (value_at t spot)

-- The number of a placement in a class in a DTZ table, below 2 to the power of 31. Some None if the table stores the other
-- side to move.
abbrev pub number_by : Option PlaceFault → Board → Class → Contents → Option (Option ℕ)
number_by None board k t = mapped_in board k t
number_by (Some WrongSide) board k t = Some None
number_by (Some OtherMaterial) board k t = None
number_by (Some Irregular) board k t = None
number_by (Some KingsTouch) board k t = None

abbrev pub number_in : Board → Class → Contents → Option (Option ℕ)
number_in board k t = number_by (place_fault (numbering_of t) board) board k t

abbrev pub stored_numbers : List Shown → StoredNumbers
stored_numbers tables men mover k = option_and_then (λ t. number_in (board_of men mover) k t.contents) (table_for Dtz (board_of men mover) tables)

-- the set stores no class for the men, or, of the DTZ tables, no number in some class
abbrev pub LacksKind : Kind → StoredClasses → StoredNumbers → List PlacedMan → Color → Type 0
LacksKind Wdl classes numbers men mover = classes men mover ≡ None
LacksKind Dtz classes numbers men mover = (k : Class) × (numbers men mover k ≡ None)

-- what is missing is not stored, and the material is that of the men
abbrev pub IsMissing : StoredClasses → StoredNumbers → Missing → List PlacedMan → Color → Type 0
IsMissing classes numbers missing men mover = (missing.material ≡ material_of men) × LacksKind missing.kind classes numbers men mover

-- why a table has no class or number for a board: it has no index for it, or its value has no meaning
abbrev pub reason_by : Option PlaceFault → MissingReason
reason_by None = Value
reason_by (Some fault) = Place fault

-- why there is none in the table that is found, if one is
abbrev pub reason_in : Board → Option Shown → MissingReason
reason_in board None = Table
reason_in board (Some t) = reason_by (place_fault (numbering_of t.contents) board)

-- what tables in memory do not have for a board
abbrev pub missing_in : Kind → Board → List Shown → Missing
missing_in kind board tables = record { material = material_of board.placed_men; kind = kind; reason = reason_in board (table_for kind board tables) }
