-- What a probe of a table in memory reports: the class or the distance by the table's value.
use Rattle.std.proofs.Common.{◌≡◌, ◌∙◌, ℕ, List, Option, None, Some, option_map, refl, sym, ap, inl, inr}
use Rattle.std.specs.Prelude.{IfSome, IsNone, MatchResult, Result, Ok, Err, ℤ, option_and_then}
use Rattle.std.proofs.lemmas.Bool.{cases_Bool}
use Rattle.std.specs.declared.convert.Infallible.{Infallible}
use Rattle.szg_file.specs.Accepted.{IsAccepted}
use Rattle.szg_file.specs.Contents.{Contents}
use Rattle.szg_file.specs.Index.{index_of}
use Rattle.szg_file.specs.Values.{list_number}
use Rattle.szg_file.specs.declared.fault.MapFault.{MapFault}
use Rattle.szg_values.specs.Placement.{Board}
use Rattle.szg_values.specs.declared.Kind.{Kind}
use Rattle.szg_values.specs.declared.Kind.TheVariants.{Wdl, Dtz}
use Rattle.szg_file.proofs.Tables.IndexLaws.{number_of_table}
use Rattle.szg_place.specs.Probes.{IsMeant, as_class, as_number}
use Rattle.szg_place.specs.Spots.{place_fault, spot_of}
use Rattle.szg_place.specs.Tables.{class_of, mapped_number, number_in, numbering_of, value_at}
use Rattle.szg_place.specs.declared.Spot.{Spot}
use Rattle.szg_place.specs.declared.PlaceFault.{PlaceFault}
use Rattle.szg_place.specs.declared.probes.Unprobed.{Unprobed}
use Rattle.szg_place.specs.declared.probes.Unprobed.TheVariants.{Place, Fetch, Map}
use Rattle.szg_c.specs.Outcomes.{IsOutcome, IsOutcomeOfMen, class_or_status, distance_or_status}
use Rattle.szg_c.specs.Places.{class_unless, distance_unless, is_class, outcome_of, outcome_result}
use Rattle.szg_c.specs.declared.places.Unfound.{Unfound}
use Rattle.szg_c.specs.declared.places.Unfound.TheVariants.{Status}

-- an outcome or a status, as a probe that fails to fetch no value finds it
abbrev pub by_status : Result ℤ ℕ → Result ℤ (Unfound Infallible)
by_status (Ok number) = Ok number
by_status (Err status) = Err (Status status)

module _ (value : Option ℕ) where
  abbrev IsMeantHere : {A : Type 0} → (ℕ → Result A MapFault) → Result A (Unprobed Infallible) → Type 0
  IsMeantHere m r = IsMeant (λ v. value ≡ Some v) (λ (never : Infallible). ⊥) m r

  class_meant : (r : Result (Option ℤ) (Unprobed Infallible)) → IsMeantHere as_class r → class_or_status r ≡ by_status (class_unless None (option_and_then class_of value))
  class_meant (Ok (Some class)) (v, is, e) =
      let stated : ◌≡◌ {A = Result (Option ℤ) MapFault} (Ok (class_of v)) (Ok (Some class)) = e in
      let k : class_of v ≡ Some class = cc stated in
      rw is (ap (λ (o : Option ℤ). by_status (class_unless None o)) (sym k))
  class_meant (Ok None) (v, is, e) =
      let stated : ◌≡◌ {A = Result (Option ℤ) MapFault} (Ok (class_of v)) (Ok None) = e in
      let k : class_of v ≡ None = cc stated in
      rw is (ap (λ (o : Option ℤ). by_status (class_unless None o)) (sym k))
  class_meant (Err (Place why)) h = absurd h
  class_meant (Err (Map why)) (v, is, e) = let stated : ◌≡◌ {A = Result (Option ℤ) MapFault} (Ok (class_of v)) (Err why) = e in absurd (cc stated)
  class_meant (Err (Fetch never)) h = absurd h

  pub class_told : (fault : Option PlaceFault) (r : Result (Option ℤ) (Unprobed Infallible)) → IfSome fault (λ why. r ≡ Err (Place why)) → (IsNone fault → IsMeantHere as_class r) →
      class_or_status r ≡ by_status (class_unless fault (option_and_then class_of value))
  class_told (Some why) r refused meant = ap class_or_status refused
  class_told None r refused meant = class_meant r (meant refl)

  module _ (t : Contents) (filled : List ℕ) (accepted : IsAccepted t filled) (part : ℕ) (class : ℤ) where
    mapped_by : (v : ℕ) → mapped_number t part class v ≡ as_number (index_of t) part class v
    mapped_by v = ap (λ (n : Option ℕ). number_in (list_number class) n) (number_of_table t filled part class v accepted)

    number_meant : (r : Result ℕ (Unprobed Infallible)) → IsMeantHere (as_number (index_of t) part class) r → distance_or_status r ≡ by_status (distance_unless None (option_map (λ v. mapped_number t part class v) value))
    number_meant (Ok n) (v, is, e) = rw is (ap (λ (m : Result ℕ MapFault). by_status (distance_unless None (Some m))) (sym (mapped_by v ∙ e)))
    number_meant (Err (Place why)) h = absurd h
    number_meant (Err (Map why)) (v, is, e) = rw is (ap (λ (m : Result ℕ MapFault). by_status (distance_unless None (Some m))) (sym (mapped_by v ∙ e)))
    number_meant (Err (Fetch never)) h = absurd h

    pub distance_told : (fault : Option PlaceFault) (r : Result ℕ (Unprobed Infallible)) → IfSome fault (λ why. r ≡ Err (Place why)) → (IsNone fault → IsMeantHere (as_number (index_of t) part class) r) →
        distance_or_status r ≡ by_status (distance_unless fault (option_map (λ v. mapped_number t part class v) value))
    distance_told (Some why) r refused meant = ap distance_or_status refused
    distance_told None r refused meant = number_meant r (meant refl)

-- the outcome in a table in memory
module _ (t : Contents) (filled : List ℕ) (accepted : IsAccepted t filled) (class : ℤ) where
  abbrev is_value : Spot → ℕ → Type 0
  is_value spot v = value_at t spot ≡ Some v

  abbrev is_fault : Spot → Infallible → Type 0
  is_fault spot never = ⊥

  of_kind : (kind : Kind) (board : Board) (r : Result ℤ (Unfound Infallible)) → IsOutcome kind (index_of t) is_value is_fault class board r → r ≡ by_status (outcome_of kind t class board)
  of_kind Wdl board r (probe, is, e) = e ∙ class_told (value_at t (spot_of (numbering_of t) board)) (place_fault (numbering_of t) board) probe is.refused is.meant
  of_kind Dtz board r h = elim (cases_Bool (is_class class)) [
    | inl inside ↦
        let found = h.0 inside in
        rw inside (found.2 ∙ distance_told (value_at t (spot_of (numbering_of t) board)) t filled accepted (spot_of (numbering_of t) board).part class (place_fault (numbering_of t) board) found.0 found.1.refused found.1.meant)
    | inr outside ↦ rw outside (h.1 outside)
  ]

  pub outcome_told : (men : Result Board ℕ) (r : Result ℤ (Unfound Infallible)) → IsOutcomeOfMen (index_of t) is_value is_fault class men r → r ≡ by_status (outcome_result t class men)
  outcome_told (Err why) r h = h
  outcome_told (Ok board) r h = of_kind t.kind board r h

-- the outcome is written, or the status says why there is none
pub written : (o : Result ℤ ℕ) (number before : ℤ) → ◌≡◌ {A = Result ℤ (Unfound Infallible)} (Ok number) (by_status o) → MatchResult o (λ n. (◌≡◌ {A = ℕ} 0 0) × (number ≡ n)) (λ status. (0 ≡ status) × (number ≡ before))
written (Ok n) number before e = let same : number ≡ n = cc e in (refl, same)
written (Err status) number before e = absurd (cc e)

pub refused : (o : Result ℤ ℕ) (status : ℕ) (before : ℤ) → ◌≡◌ {A = Result ℤ (Unfound Infallible)} (Err (Status status)) (by_status o) → MatchResult o (λ n. (status ≡ 0) × (before ≡ n)) (λ why. (status ≡ why) × (before ≡ before))
refused (Ok n) status before e = absurd (cc e)
refused (Err why) status before e = let same : status ≡ why = cc e in (same, refl)
