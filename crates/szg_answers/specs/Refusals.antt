-- Why a request on a table is refused.
use Rattle.std.specs.Prelude.{◌≡◌, ℕ, nat_lt, Option, Some, None, Result, Ok, Err, option_map, option_and_then, if◌then◌else◌}
use Rattle.szg_file.specs.Contents.{Contents}
use Rattle.szg_file.specs.Values.{subtable_at}
use Rattle.szg_file.specs.declared.fault.MapFault.{MapFault}
use Rattle.szg_values.specs.Placement.{Board}
use Rattle.szg_values.specs.declared.Kind.{Kind}
use Rattle.szg_values.specs.declared.Kind.TheVariants.{Wdl, Dtz}
use Rattle.szg_place.specs.Spots.{place_fault, placement_refusal, spot_of}
use Rattle.szg_place.specs.Tables.{numbering_of, value_at, mapped_number}
use Rattle.szg_place.specs.declared.PlaceFault.{PlaceFault}
use Rattle.szg_words.specs.Words.{number_of_class}
use Rattle.szg_words.specs.declared.request.AskedClass.{AskedClass}
use Rattle.szg_answers.specs.declared.refusal.Refusal.{Refusal}
use Rattle.szg_answers.specs.declared.refusal.Refusal.TheVariants as why
use Rattle.szg_words.specs.declared.request.Action.{Action}
use Rattle.szg_words.specs.declared.request.Action.TheVariants.{Get, GetCounted, Values, Index, Probe, Placement, Unplaced}

-- how many positions a part and side have, where they are there
abbrev pub size_at : Contents → ℕ → ℕ → Option ℕ
size_at t part side = option_map (λ found. found.0.size) (subtable_at t part side)

-- the refusal of a subtable of this size, where it isn't there
abbrev pub part_refusal : Option ℕ → Option Refusal
part_refusal None = Some why.Part
part_refusal (Some size) = None

-- the refusal of an index, where there is none of that number
abbrev pub index_refusal : Option ℕ → ℕ → Option Refusal
index_refusal None index = Some why.Part
index_refusal (Some size) index = if nat_lt index size then None else Some why.Index

-- the refusal of a placement or an index that has a fault
abbrev pub place_refusal : Option PlaceFault → Option Refusal
place_refusal fault = option_map (λ f. why.Place f) fault

-- the refusal of a number that isn't in the map
abbrev pub map_refusal : Result ℕ MapFault → Option Refusal
map_refusal (Ok number) = None
map_refusal (Err fault) = Some (why.Map fault)

-- the first of two refusals
abbrev pub first_refusal : Option Refusal → Option Refusal → Option Refusal
first_refusal None other = other
first_refusal (Some refusal) other = Some refusal

abbrev pub spot_refusal : Contents → Board → Option Refusal
spot_refusal t board = place_refusal (place_fault (numbering_of t) board)

abbrev pub number_refusal : Contents → Board → AskedClass → Option Refusal
number_refusal t board class = first_refusal (spot_refusal t board)
    (option_and_then (λ v. map_refusal (mapped_number t (spot_of (numbering_of t) board).part (number_of_class class) v)) (value_at t (spot_of (numbering_of t) board)))

abbrev pub outcome_refusal : Kind → Contents → Board → AskedClass → Option Refusal
outcome_refusal Wdl t board class = spot_refusal t board
outcome_refusal Dtz t board class = number_refusal t board class

abbrev pub placement_refusal_at : Contents → ℕ → ℕ → ℕ → Option Refusal
placement_refusal_at t part side index = first_refusal (index_refusal (size_at t part side) index) (place_refusal (placement_refusal (numbering_of t) part side))

-- This refusal is the one that the action meets.
abbrev pub IsRefused : Action → ℕ → ℕ → Contents → Refusal → Type 0
IsRefused (Get index) part side t refusal = index_refusal (size_at t part side) index ≡ Some refusal
IsRefused (GetCounted index) part side t refusal = index_refusal (size_at t part side) index ≡ Some refusal
IsRefused Values part side t refusal = part_refusal (size_at t part side) ≡ Some refusal
IsRefused (Index board) part side t refusal = spot_refusal t board ≡ Some refusal
IsRefused (Probe board class) part side t refusal = outcome_refusal t.kind t board class ≡ Some refusal
IsRefused (Placement index) part side t refusal = placement_refusal_at t part side index ≡ Some refusal
IsRefused (Unplaced fault) part side t refusal = why.Men fault ≡ refusal
IsRefused action part side t refusal = ⊥
