-- What opened tables store, as far as their values are known.
use Rattle.std.specs.Prelude.{ℕ, ◌≡◌, ◌&&◌, Bool, List, find, Option, Some, None, IfNone, IfSome, is_none, option_and_then, if◌then◌else◌}
use Rattle.szg_values.specs.Material.{Sides, is_same_men}
use Rattle.szg_values.specs.Placement.{Board, material_of}
use Rattle.szg_values.specs.declared.Kind.{Kind}
use Rattle.szg_values.specs.declared.Kind.TheVariants.{Wdl, Dtz}
use Rattle.szg_file.specs.Index.{Index}
use Rattle.szg_place.specs.Probes.{as_number}
use Rattle.szg_place.specs.Spots.{place_fault, spot_of}
use Rattle.szg_place.specs.Tables.{numbering_in}
use Rattle.szg_place.specs.declared.PlaceFault.{PlaceFault}
use Rattle.szg_place.specs.declared.PlaceFault.TheVariants.{OtherMaterial, Irregular, KingsTouch, WrongSide}
use Rattle.szg_place.specs.declared.Spot.{Spot}
use Rattle.szg_game.specs.declared.Class.{Class}
use Rattle.szg_probe.specs.Probing.{StoredClasses}
use Rattle.szg_probe.specs.Distances.{StoredNumbers}
use Rattle.szg_tables.specs.Stored.{board_of, is_kind, class_of_value, is_few, number_of_class}
use Rattle.szg_tables.specs.declared.MissingReason.{MissingReason}
use Rattle.szg_tables.specs.declared.MissingReason.TheVariants.{Table, Place, Value}

-- ---- one table

-- a table's index, and its value at a spot. None if the value is not known.
pub record Opened : Type 0 where
  pub index : Index
  pub value_at : Spot → Option ℕ

-- the value of a placement. None if the table has no index for it, or the value is not known.
abbrev pub value_in : Board → Opened → Option ℕ
value_in board t = if is_none (place_fault (numbering_in t.index) board) then t.value_at (spot_of (numbering_in t.index) board) else None

-- the class of a placement in a WDL table
abbrev pub class_in : Board → Opened → Option Class
class_in board t = option_and_then class_of_value (value_in board t)

-- the number of a placement in a class, in a table that has an index for it
abbrev pub mapped_in : Board → Class → Opened → Option (Option ℕ)
mapped_in board k t =
    let spot = spot_of (numbering_in t.index) board in
    option_and_then (λ v. is_few (as_number t.index spot.part (number_of_class k) v)) (t.value_at spot)

-- The number of a placement in a class in a DTZ table, below 2 to the power of 31. Some None if the table stores the other
-- side to move.
abbrev pub number_by : Option PlaceFault → Board → Class → Opened → Option (Option ℕ)
number_by None board k t = mapped_in board k t
number_by (Some WrongSide) board k t = Some None
number_by (Some OtherMaterial) board k t = None
number_by (Some Irregular) board k t = None
number_by (Some KingsTouch) board k t = None

abbrev pub number_in : Board → Class → Opened → Option (Option ℕ)
number_in board k t = number_by (place_fault (numbering_in t.index) board) board k t

-- Why a table has no class or number for a board: it has no index for it, or its value has no meaning, or is not known, for a
-- reason that `explains` allows.
abbrev pub IsReasonBy : Option PlaceFault → Option ℕ → (MissingReason → Type 0) → MissingReason → Type 0
IsReasonBy (Some fault) value explains reason = reason ≡ Place fault
IsReasonBy None (Some v) explains reason = reason ≡ Value
IsReasonBy None None explains reason = explains reason

abbrev pub IsReasonIn : (Spot → MissingReason → Type 0) → Board → Opened → MissingReason → Type 0
IsReasonIn explains board t reason =
    let spot = spot_of (numbering_in t.index) board in
    IsReasonBy (place_fault (numbering_in t.index) board) (t.value_at spot) (explains spot) reason

-- ---- a list of tables of any type, by what each stores

-- the index of a table of this kind and material
abbrev pub is_for : Kind → Sides → Index → Bool
is_for kind sides x = is_kind kind x.kind && (is_same_men sides.first x.material.first && is_same_men sides.second x.material.second)

-- the first table of this kind for these men
abbrev pub first_for : {A : Type 0} → (A → Opened) → Kind → Board → List A → Option A
first_for opened kind board tables = find (λ t. is_for kind (material_of board.placed_men) (opened t).index) tables

-- what the tables store
abbrev pub opened_classes : {A : Type 0} → (A → Opened) → List A → StoredClasses
opened_classes opened tables men mover = option_and_then (λ t. class_in (board_of men mover) (opened t)) (first_for opened Wdl (board_of men mover) tables)

abbrev pub opened_numbers : {A : Type 0} → (A → Opened) → List A → StoredNumbers
opened_numbers opened tables men mover k = option_and_then (λ t. number_in (board_of men mover) k (opened t)) (first_for opened Dtz (board_of men mover) tables)

-- why the tables have no class or number for a board: there is no table of the kind; else why there is none in the first one
abbrev pub IsReason : {A : Type 0} → (A → Opened) → (A → Spot → MissingReason → Type 0) → Kind → Board → List A → MissingReason → Type 0
IsReason opened explains kind board tables reason =
    let found = first_for opened kind board tables in
    IfNone found (reason ≡ Table) × IfSome found (λ t. IsReasonIn (explains t) board (opened t) reason)
