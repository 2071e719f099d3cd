-- What was fetched of the files of tables is what the tables store.
use Rattle.std.proofs.Common.{◌≡◌, ℕ, suc, ◌<◌, List, [], ◌∷◌, refl, sym, ap, ◌∙◌, subst, arith, Bool, true, inl, inr, Option, Some, None, option_map, All}
use Rattle.std.specs.Prelude.{ℤ, ◌&&◌, ◌==◌, find, IfSome, IsSomeAnd, Result, is_none, option_and_then, if◌then◌else◌}
use Rattle.std.proofs.lemmas.Bool.{cases_Bool, eqb-true}
use Rattle.szg_values.specs.Material.{Sides}
use Rattle.szg_values.specs.Placement.{Board, material_of}
use Rattle.szg_values.specs.declared.Kind.{Kind}
use Rattle.szg_values.specs.declared.Kind.TheVariants.{Wdl, Dtz}
use Rattle.szg_file.specs.Accepted.{AreNumbers, IsAccepted}
use Rattle.szg_file.specs.Contents.{Contents, Slot, Subtable}
use Rattle.szg_file.specs.File.{file}
use Rattle.szg_file.specs.Format.{Verdict, good, refused, truncated, verdict}
use Rattle.szg_file.specs.Held.{Shown}
use Rattle.szg_file.specs.Index.{Index, index_of, slot_in}
use Rattle.szg_file.specs.Opened.{table_in, table_of}
use Rattle.szg_file.specs.Unread.{front_in, IsDecoded}
use Rattle.szg_file.specs.Values.{item, list_number, subtable_at, values_of}
use Rattle.szg_file.specs.declared.fault.MapFault.{MapFault}
use Rattle.szg_file.proofs.Grammar.DecodedLaws.{accepted_decodes, good_is_front}
use Rattle.szg_file.proofs.Grammar.WholeLaws.{good_is_file}
use Rattle.szg_file.proofs.Tables.IndexLaws.{number_of_table, slot_of_table}
use Rattle.szg_place.specs.Probes.{as_number}
use Rattle.szg_place.specs.Spots.{place_fault, spot_of}
use Rattle.szg_place.specs.Tables.{mapped_number, number_in, numbering_in, numbering_of, value_at}
use Rattle.szg_place.specs.declared.PlaceFault.{PlaceFault}
use Rattle.szg_place.specs.declared.PlaceFault.TheVariants.{OtherMaterial, Irregular, KingsTouch, WrongSide}
use Rattle.szg_place.specs.declared.Spot.{Spot}
use Rattle.szg_game.specs.declared.Class.{Class}
use Rattle.szg_game.proofs.Tests.{and_parts}
use Rattle.szg_tables.proofs.Among.{Among, if_among, then_among}
use Rattle.szg_tables.specs.Fetched.{AreAmong, AreNumbersAmong, IsFileOf, IsOfFile, IsOfTable, IsValueIn, fetched, fetched_at, fetched_classes, fetched_numbers, is_at}
use Rattle.szg_tables.specs.Opened.{Opened, class_in, first_for, is_for as is_opened_for, number_by, number_in as opened_number_in, value_in}
use Rattle.szg_tables.specs.Stored.{board_of, class_of_value, is_few, is_for, number_of_class, stored_classes, stored_numbers, table_for}
use Rattle.szg_tables.specs.Stored as stored
use Rattle.szg_tables.specs.declared.fetched.FetchedTable.{FetchedTable}
use Rattle.szg_tables.specs.declared.fetched.FetchedValue.{FetchedValue}

-- ---- finding

pub found_holds : {A : Type 0} (p : A → Bool) (P : A → Type 0) (xs : List A) (x : A) → All P xs → find p xs ≡ Some x → P x × (p x ≡ true)
found_holds p P [] x all e = let no : None ≡ Some x = e in absurd (cc no)
found_holds p P (y ∷ ys) x all e = elim (cases_Bool (p y)) [
  | inl t ↦ (let same : y ≡ x = cc (rw t at e) in (subst P same (all 0 y (omega arith)), ap p (sym same) ∙ t))
  | inr f ↦ found_holds p P ys x (λ i d less. all (suc i) d (omega arith)) (rw f at e)
]

pub with_some : {A R : Type 0} (o : Option A) (P : A → Type 0) → IsSomeAnd o P → ((x : A) → o ≡ Some x → P x → R) → R
with_some None P h next = absurd h
with_some (Some x) P h next = next x refl h

-- ---- one value

good_of : (v : Verdict Contents) (t : Contents) → table_of v ≡ Some t → (filled : List ℕ) × (rest : List ℕ) × (v ≡ good t filled rest)
good_of (good u filled rest) t e = let same : u ≡ t = cc e in (filled, rest, ap (λ (x : Contents). good x filled rest) same)
good_of (refused place why rest) t e = let no : None ≡ Some t = e in absurd (cc no)
good_of (truncated count) t e = let no : None ≡ Some t = e in absurd (cc no)

with_slot : (o : Option (Slot × Subtable)) (q : Option Slot) (i : ℕ) → option_map (λ pair. pair.0) o ≡ q → IsSomeAnd q (λ slot. i < slot.size) → (pair : Slot × Subtable) × (o ≡ Some pair) × (i < pair.0.size)
with_slot None q i e s = absurd (subst (λ (q : Option Slot). IsSomeAnd q (λ slot. i < slot.size)) (sym e) s)
with_slot (Some pair) q i e s = (pair, refl, subst (λ (q : Option Slot). IsSomeAnd q (λ slot. i < slot.size)) (sym e) s)

abbrev value_of : Contents → ℕ → ℕ → ℕ → Option ℕ
value_of t part side i = option_and_then (λ found. item (values_of t.kind found) i) (subtable_at t part side)

-- a fetched table, and the table of the file from which it was fetched
module _ (f : FetchedTable) (t : Contents) (content : List ℕ) (small : AreNumbers 1 content) (there : table_in f.front.index.material f.front.index.kind content ≡ Some t) (of : IsOfFile f content) where
  at_front : front_in f.front.index.material f.front.index.kind content ≡ Some t
  at_front = (good_is_front f.front.index.material f.front.index.kind content t small there).0

  index_is : f.front.index ≡ index_of t
  index_is = let same : of.front.table ≡ t = cc (sym of.front.there ∙ at_front) in of.front.index_is ∙ ap index_of same

  accepted : (filled : List ℕ) × IsAccepted t filled
  accepted =
      let g = good_of (verdict (file f.front.index.material f.front.index.kind) 0 content) t there in
      (g.0, (good_is_file f.front.index.material f.front.index.kind content t g.0 g.1 small g.2).2)

  value_is : (v : FetchedValue) → IsValueIn f.front content v → value_of t v.spot.part v.spot.side v.spot.index ≡ Some v.value
  value_is v is =
      let below : IsSomeAnd (slot_in (index_of t) v.spot.part v.spot.side) (λ slot. v.spot.index < slot.size) =
      subst (λ (x : Index). IsSomeAnd (slot_in x v.spot.part v.spot.side) (λ slot. v.spot.index < slot.size)) index_is is.0 in
      let found = with_slot (subtable_at t v.spot.part v.spot.side) (slot_in (index_of t) v.spot.part v.spot.side) v.spot.index (slot_of_table t accepted.0 v.spot.part v.spot.side accepted.1) below in
      let at : option_and_then (λ (u : Contents). subtable_at u v.spot.part v.spot.side) (front_in f.front.index.material f.front.index.kind content) ≡ Some found.0 =
      ap (option_and_then (λ (u : Contents). subtable_at u v.spot.part v.spot.side)) at_front ∙ found.1 in
      let decoded : IsDecoded f.front.index.kind found.0 v.spot.index v.value = subst (λ (o : Option (Slot × Subtable)). IfSome o (λ pair. IsDecoded f.front.index.kind pair v.spot.index v.value)) at is.1 in
      let decoded-there : IsDecoded t.kind found.0 v.spot.index v.value = subst (λ (x : Index). IsDecoded x.kind found.0 v.spot.index v.value) index_is decoded in
      ap (option_and_then (λ (pair : Slot × Subtable). item (values_of t.kind pair) v.spot.index)) found.1
      ∙ (accepted_decodes t accepted.0 accepted.1 v.spot.part v.spot.side found.0 found.1 v.spot.index found.2).0 v.value decoded-there

  fetched_among : (s : Spot) → Among (fetched_at f.values.items s) (value_at t s)
  fetched_among s x e = by (find (is_at s) f.values.items) refl e where
    by : (o : Option FetchedValue) → find (is_at s) f.values.items ≡ o → option_map (λ v. v.value) o ≡ Some x → value_at t s ≡ Some x
    by None is e = let no : None ≡ Some x = e in absurd (cc no)
    by (Some v) is e =
        let r = found_holds (is_at s) (IsValueIn f.front content) f.values.items v of.values is in
        let equal : Some v.value ≡ Some x = e in
        let same : v.value ≡ x = cc equal in
        let parts = and_parts (v.spot.index == s.index) (v.spot.part == s.part && v.spot.side == s.side) r.1 in
        let others = and_parts (v.spot.part == s.part) (v.spot.side == s.side) parts.1 in
        let here : value_of t v.spot.part v.spot.side v.spot.index ≡ Some x = value_is v r.0 ∙ ap (λ (n : ℕ). Some n) same in
        subst (λ (i : ℕ). value_of t s.part s.side i ≡ Some x) (eqb-true v.spot.index s.index parts.0)
        (subst (λ (side : ℕ). value_of t s.part side v.spot.index ≡ Some x) (eqb-true v.spot.side s.side others.1)
        (subst (λ (part : ℕ). value_of t part v.spot.side v.spot.index ≡ Some x) (eqb-true v.spot.part s.part others.0) here))

  placed_among : (board : Board) (x : Index) → x ≡ index_of t →
      Among (if is_none (place_fault (numbering_in x) board) then fetched_at f.values.items (spot_of (numbering_in x) board) else None) (stored.value_in board t)
  placed_among board x is =
      subst (λ (y : Index). Among (if is_none (place_fault (numbering_in y) board) then fetched_at f.values.items (spot_of (numbering_in y) board) else None) (stored.value_in board t)) (sym is)
      (if_among (is_none (place_fault (numbering_of t) board)) (fetched_at f.values.items (spot_of (numbering_of t) board)) None (value_at t (spot_of (numbering_of t) board)) None
      (fetched_among (spot_of (numbering_of t) board)) (λ v e. e))

  pub class_among : (board : Board) → Among (class_in board (fetched f)) (stored.class_in board t)
  class_among board = then_among class_of_value class_of_value (value_in board (fetched f)) (stored.value_in board t) (placed_among board f.front.index index_is) (λ v k e. e)

  number_is : (part : ℕ) (class : ℤ) (v : ℕ) → as_number (index_of t) part class v ≡ mapped_number t part class v
  number_is part class v = ap (number_in (list_number class)) (sym (number_of_table t accepted.0 part class v accepted.1))

  mapped_among : (board : Board) (k : Class) (x : Index) → x ≡ index_of t →
      Among (option_and_then (λ v. is_few (as_number x (spot_of (numbering_in x) board).part (number_of_class k) v)) (fetched_at f.values.items (spot_of (numbering_in x) board))) (stored.mapped_in board k t)
  mapped_among board k x is =
      let spot : Spot = spot_of (numbering_of t) board in
      let class : ℤ = number_of_class k in
      subst (λ (y : Index). Among (option_and_then (λ v. is_few (as_number y (spot_of (numbering_in y) board).part class v)) (fetched_at f.values.items (spot_of (numbering_in y) board))) (stored.mapped_in board k t)) (sym is)
      (then_among (λ v. is_few (as_number (index_of t) spot.part class v)) (λ v. is_few (mapped_number t spot.part class v)) (fetched_at f.values.items spot) (value_at t spot)
      (fetched_among spot) (λ v n e. subst (λ (r : Result ℕ MapFault). is_few r ≡ Some n) (number_is spot.part class v) e))

  by_fault : (board : Board) (k : Class) (o : Option PlaceFault) → Among (number_by o board k (fetched f)) (stored.number_by o board k t)
  by_fault board k None = mapped_among board k f.front.index index_is
  by_fault board k (Some WrongSide) = λ n e. e
  by_fault board k (Some OtherMaterial) = λ n e. e
  by_fault board k (Some Irregular) = λ n e. e
  by_fault board k (Some KingsTouch) = λ n e. e

  pub number_among : (k : Class) (board : Board) → Among (opened_number_in board k (fetched f)) (stored.number_in board k t)
  number_among k board =
      let fault = λ (x : Index). place_fault (numbering_in x) board in
      subst (λ (o : Option PlaceFault). Among (number_by (fault f.front.index) board k (fetched f)) (stored.number_by o board k t)) (ap fault index_is) (by_fault board k (fault f.front.index))

-- ---- all tables

module _ {B : Type 0} (kind : Kind) (few : Board → Opened → Option B) (many : Board → Contents → Option B)
    (each : (f : FetchedTable) (t : Contents) (content : List ℕ) → AreNumbers 1 content → table_in f.front.index.material f.front.index.kind content ≡ Some t → IsOfFile f content →
    (board : Board) → Among (few board (fetched f)) (many board t)) where
  tables_among : (fs : List FetchedTable) (tables : List Shown) → All (IsOfTable tables) fs → (board : Board) →
      Among (option_and_then (λ f. few board (fetched f)) (first_for fetched kind board fs)) (option_and_then (λ t. many board t.contents) (table_for kind board tables))
  tables_among fs tables all board x e = by (first_for fetched kind board fs) refl e where
    by : (o : Option FetchedTable) → first_for fetched kind board fs ≡ o → option_and_then (λ f. few board (fetched f)) o ≡ Some x → option_and_then (λ t. many board t.contents) (table_for kind board tables) ≡ Some x
    by None is e = let no : None ≡ Some x = e in absurd (cc no)
    by (Some f) is e =
        let sides : Sides = material_of board.placed_men in
        let r = found_holds (λ (f : FetchedTable). is_opened_for kind sides f.front.index) (IsOfTable tables) fs f all is in
        with_some (find (is_for kind sides) tables) (IsFileOf f) (r.0 kind sides r.1) (λ t there of.
        ap (option_and_then (λ (u : Shown). many board u.contents)) there ∙ each f t.contents of.content of.small of.there of.is board x e)

pub classes_among : (fs : List FetchedTable) (tables : List Shown) → All (IsOfTable tables) fs → AreAmong (fetched_classes fs) (stored_classes tables)
classes_among fs tables all men mover = tables_among Wdl class_in stored.class_in class_among fs tables all (board_of men mover)

pub numbers_among : (fs : List FetchedTable) (tables : List Shown) → All (IsOfTable tables) fs → AreNumbersAmong (fetched_numbers fs) (stored_numbers tables)
numbers_among fs tables all men mover k =
    tables_among Dtz (λ board t. opened_number_in board k t) (λ board t. stored.number_in board k t) (λ f t content small there of. number_among f t content small there of k) fs tables all (board_of men mover)
