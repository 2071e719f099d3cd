-- The class or the distance of men by the values of a table, wherever its blocks are: `is_value` and `is_fault` say what is true of
-- a value that is fetched for a spot, and of a fault.
use Rattle.std.specs.Prelude.{◌≡◌, ℕ, ℤ, pos, true, false, Option, Some, None, IfSome, IsNone, Result, Ok, Err}
use Rattle.szg_values.specs.Placement.{Board}
use Rattle.szg_values.specs.declared.Kind.{Kind}
use Rattle.szg_values.specs.declared.Kind.TheVariants.{Wdl, Dtz}
use Rattle.szg_file.specs.Index.{Index}
use Rattle.szg_file.specs.declared.fault.MapFault.{MapFault}
use Rattle.szg_place.specs.Probes.{IsMeant, as_class, as_number}
use Rattle.szg_place.specs.Spots.{place_fault, spot_of}
use Rattle.szg_place.specs.Tables.{numbering_in}
use Rattle.szg_place.specs.declared.Spot.{Spot}
use Rattle.szg_place.specs.declared.probes.Unprobed.{Unprobed}
use Rattle.szg_place.specs.declared.probes.Unprobed.TheVariants as probed
use Rattle.szg_c.specs.Places.{is_class, map_status, place_status}
use Rattle.szg_c.specs.declared.places.Unfound.{Unfound}
use Rattle.szg_c.specs.declared.places.Unfound.TheVariants.{Status, Fetch}

-- ---- statuses

abbrev pub fault_or_status : {F : Type 0} → Unprobed F → Unfound F
fault_or_status (probed.Place why) = Status (place_status why)
fault_or_status (probed.Map why) = Status (map_status why)
fault_or_status (probed.Fetch why) = Fetch why

abbrev pub class_or_status : {F : Type 0} → Result (Option ℤ) (Unprobed F) → Result ℤ (Unfound F)
class_or_status (Ok (Some class)) = Ok class
class_or_status (Ok None) = Err (Status 14)
class_or_status (Err fault) = Err (fault_or_status fault)

abbrev pub distance_or_status : {F : Type 0} → Result ℕ (Unprobed F) → Result ℤ (Unfound F)
distance_or_status (Ok number) = Ok (pos number)
distance_or_status (Err fault) = Err (fault_or_status fault)

-- ---- probes

-- a probe's result: the fault of a refused placement; else what the value means, or the fault of the fetch
pub record IsProbed {A F : Type 0} (x : Index) (is_value : Spot → ℕ → Type 0) (is_fault : Spot → F → Type 0) (board : Board) (meaning : ℕ → Result A MapFault) (r : Result A (Unprobed F)) : Type 0 where
  pub refused : IfSome (place_fault (numbering_in x) board) (λ why. r ≡ Err (probed.Place why))
  pub meant : IsNone (place_fault (numbering_in x) board) → (let spot = spot_of (numbering_in x) board in IsMeant (is_value spot) (is_fault spot) meaning r)

-- a WDL table gives a placement's class, a DTZ table its number in a class
abbrev pub IsOutcome : {F : Type 0} → Kind → Index → (Spot → ℕ → Type 0) → (Spot → F → Type 0) → ℤ → Board → Result ℤ (Unfound F) → Type 0
IsOutcome {F = F} Wdl x is_value is_fault class board outcome = (r : Result (Option ℤ) (Unprobed F)) × IsProbed x is_value is_fault board as_class r × (outcome ≡ class_or_status r)
IsOutcome {F = F} Dtz x is_value is_fault class board outcome =
    (is_class class ≡ true → (r : Result ℕ (Unprobed F)) × IsProbed x is_value is_fault board (as_number x (spot_of (numbering_in x) board).part class) r × (outcome ≡ distance_or_status r))
    × (is_class class ≡ false → outcome ≡ Err (Status 4))

-- the same, if the men are a placement
abbrev pub IsOutcomeOfMen : {F : Type 0} → Index → (Spot → ℕ → Type 0) → (Spot → F → Type 0) → ℤ → Result Board ℕ → Result ℤ (Unfound F) → Type 0
IsOutcomeOfMen x is_value is_fault class (Err why) outcome = outcome ≡ Err (Status why)
IsOutcomeOfMen x is_value is_fault class (Ok board) outcome = IsOutcome x.kind x is_value is_fault class board outcome
