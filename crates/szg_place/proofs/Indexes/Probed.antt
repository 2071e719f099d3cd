-- The spot at which the code looks up a value, and what a fetched value means.
use Rattle.std.proofs.Common.{◌≡◌, ◌<◌, ℕ, List, Bool, cond, refl, sym, ap, ◌∙◌, subst}
use Rattle.std.specs.Prelude.{Option, Some, None, IsNone, IsSome, IfSome, IsSomeAnd, option_and_then, Result, Ok, Err, ℤ}
use Rattle.szg_values.specs.declared.Kind.{Kind}
use Rattle.szg_values.specs.declared.Kind.TheVariants.{Dtz}
use Rattle.szg_values.specs.Placement.{Board}
use Rattle.szg_file.specs.Accepted.{IsAccepted}
use Rattle.szg_file.specs.Contents.{Contents, Slot}
use Rattle.szg_file.specs.Index.{Index, index_of, slot_in}
use Rattle.szg_file.specs.Values.{list_number, subtable_at}
use Rattle.szg_file.specs.declared.fault.MapFault.{MapFault}
use Rattle.szg_file.proofs.Tables.IndexLaws.{number_of_table, slot_of_table}
use Rattle.szg_place.specs.Layout.{is_dtz}
use Rattle.szg_place.specs.Normal.{moving_side, normal_of}
use Rattle.szg_place.specs.Probes.{as_number, IsMeant}
use Rattle.szg_place.specs.declared.probes.Unprobed.{Unprobed}
use Rattle.szg_place.specs.declared.probes.Unprobed.TheVariants.{Map}
use Rattle.szg_place.specs.Spots.{place_fault, spot_of}
use Rattle.szg_place.specs.Tables.{mapped_number, number_in, numbering_in}
use Rattle.szg_place.specs.declared.Spot.{Spot}
use Rattle.szg_place.specs.declared.PlaceFault.{PlaceFault}
use Rattle.szg_place.proofs.Indexes.Found.{some_first}

-- a result without an error is the spot
pub ok_spot : (o : Option PlaceFault) (s spot : Spot) → IfSome o (λ fault. ◌≡◌ {A = Result Spot PlaceFault} (Ok spot) (Err fault)) → (IsNone o → ◌≡◌ {A = Result Spot PlaceFault} (Ok spot) (Ok s)) → spot ≡ s
ok_spot None s spot h g = let k : ◌≡◌ {A = Result Spot PlaceFault} (Ok spot) (Ok s) = g refl in cc
ok_spot (Some f) s spot h g = let k : ◌≡◌ {A = Result Spot PlaceFault} (Ok spot) (Err f) = h in cc

pub spot_is : (x y : Index) (board : Board) (spot : Spot) → x ≡ y → IfSome (place_fault (numbering_in x) board) (λ fault. ◌≡◌ {A = Result Spot PlaceFault} (Ok spot) (Err fault)) →
    (IsNone (place_fault (numbering_in x) board) → ◌≡◌ {A = Result Spot PlaceFault} (Ok spot) (Ok (spot_of (numbering_in x) board))) → spot ≡ spot_of (numbering_in y) board
spot_is x y board spot same refused is =
    ok_spot (place_fault (numbering_in x) board) (spot_of (numbering_in x) board) spot refused is ∙ ap (λ (z : Index). spot_of (numbering_in z) board) same

pub some_there : {X : Type 0} (o : Option X) (P : X → Type 0) → IsSomeAnd o P → IsSome o
some_there None P h = absurd h
some_there (Some x) P h = refl

-- a DTZ table has one side
side_zero : (x : Index) (board : Board) → x.kind ≡ Dtz → (spot_of (numbering_in x) board).side ≡ 0
unfolding spot_of normal_of
side_zero x board e = ap (λ (k : Kind). choice (is_dtz k)) e where
  choice : Bool → ℕ
  choice b = cond b 0 (moving_side x.material board)

pub one_side : (x y : Index) (board : Board) (spot : Spot) → y ≡ x → x.kind ≡ Dtz → spot ≡ spot_of (numbering_in x) board → IsSomeAnd (slot_in x spot.part spot.side) (λ slot. spot.index < slot.size) →
    IsSome (slot_in y spot.part 0)
one_side x y board spot same kind is there =
    subst (λ (z : Index). IsSome (slot_in z spot.part 0)) (sym same)
    (subst (λ (n : ℕ). IsSome (slot_in x spot.part n)) (ap (λ (s : Spot). s.side) is ∙ side_zero x board kind) (some_there (slot_in x spot.part spot.side) (λ slot. spot.index < slot.size) there))

-- ---- the value at a spot of a table

pub subtable_there : (t : Contents) (filled : List ℕ) (spot : Spot) → IsAccepted t filled → IsSomeAnd (slot_in (index_of t) spot.part spot.side) (λ slot. spot.index < slot.size) →
    IsSomeAnd (subtable_at t spot.part spot.side) (λ found. spot.index < found.0.size)
subtable_there t filled spot a h =
    some_first (λ slot. spot.index < slot.size) (subtable_at t spot.part spot.side)
    (subst (λ (o : Option Slot). IsSomeAnd o (λ slot. spot.index < slot.size)) (sym (slot_of_table t filled spot.part spot.side a)) h)

pub and_if : {X : Type 0} (o : Option X) (P : X → Type 0) → IsSomeAnd o P → IfSome o P
and_if None P h = absurd h
and_if (Some x) P h = h

pub value_is : {X : Type 0} (o : Option X) (f : X → Option ℕ) (v : ℕ) (P : X → Type 0) → IsSomeAnd o P → IfSome o (λ x. f x ≡ Some v) → option_and_then f o ≡ Some v
value_is None f v P there h = absurd there
value_is (Some x) f v P there h = h

-- ---- the number of a value of a table

pub number_told : (t : Contents) (filled : List ℕ) (part : ℕ) (class : ℤ) (v : ℕ) (o : Option ℕ) (r : Result ℕ MapFault) (Q : Result ℕ MapFault → Type 0) → IsAccepted t filled → o ≡ Some v →
    as_number (index_of t) part class v ≡ r → Q r → IsSomeAnd o (λ v. Q (mapped_number t part class v))
number_told t filled part class v o r Q a there is q =
    subst (λ (x : Option ℕ). IsSomeAnd x (λ v. Q (mapped_number t part class v))) (sym there)
    (subst Q (sym (ap (λ (n : Option ℕ). number_in (list_number class) n) (number_of_table t filled part class v a) ∙ is)) q)

-- a value that was fetched and has no number
pub meant_map : {A F : Type 0} (V : ℕ → Type 0) (M : F → Type 0) (m : ℕ → Result A MapFault) (u : Unprobed F) (fault : MapFault) → u ≡ Map fault → IsMeant V M m (Err u) → (v : ℕ) × V v × (m v ≡ Err fault)
meant_map V M m u fault e h = subst (λ u. IsMeant V M m (Err u)) e h
