-- How the index of a table relates to the table.
use Rattle.std.proofs.Common.{◌≡◌, ℕ, ◌<◌, List, length, map, get_or, refl, sym, ap, subst, ◌∙◌, arith, Some, None, Option, option_map, IsSome}
use Rattle.std.specs.Prelude.{slice_get, position, ℤ, option_and_then}
use Rattle.std.proofs.lemmas.List.{length-map}
use Rattle.std.proofs.lemmas.List.Quantifiers.{position-Some}
use Rattle.std.proofs.lemmas.Option.{slice_get-map, slice_get-get_or}
use Rattle.szg_values.specs.declared.Kind.{Kind}
use Rattle.szg_values.specs.declared.Kind.TheVariants.{Dtz}
use Rattle.szg_block.specs.declared.Sub.{Sub}
use Rattle.szg_file.specs.Accepted.{SideBySide, IsSubtable, IsAccepted, IsMapOf, AreMaps}
use Rattle.szg_file.specs.Contents.{Contents, Map, Slot, slots, Subtable, constant}
use Rattle.szg_file.specs.File.{flags_of}
use Rattle.szg_file.specs.Held.{subtable_of}
use Rattle.szg_file.specs.Index.{Index, IsIndex, index_of, index_with, contents_with, slot_number, slot_in, flags_in, number_in}
use Rattle.szg_file.specs.Values.{item, found, slotted, subtable_at, list_number, number_at, number_of_value}
use Rattle.szg_file.proofs.Tables.TableFinds.{is_at, item-slice_get, side_lengths, not_found, found_there, part_below, slot_count}

-- ---- searches among the slots

no_slot : Slot
no_slot = record { part = 0; side = 0; size = 0 }

-- the index that a search returns is below the length
pub at_position : (part side : ℕ) (xs : List Slot) (n : ℕ) → position (is_at part side) xs ≡ Some n → n < length xs
at_position part side xs n e = (position-Some (is_at part side) xs n no_slot e).0

read_at : {A : Type 0} (xs : List A) (n : ℕ) (d : A) → n < length xs → (x : A) × (slice_get xs n ≡ Some x)
read_at xs n d h = (get_or xs n d, slice_get-get_or xs n d h)

-- the slot and the flags of a part and side among slots with their subtables
pub slot_stated : (part side : ℕ) (xs : List Slot) (ys : List Subtable) → length xs ≡ length ys →
    option_map (λ pair. pair.0) (found part side (slotted xs ys)) ≡ option_and_then (λ n. slice_get xs n) (position (is_at part side) xs)
slot_stated part side xs ys many = stated (position (is_at part side) xs) refl where
  stated : (o : Option ℕ) → position (is_at part side) xs ≡ o → option_map (λ pair. pair.0) (found part side (slotted xs ys)) ≡ option_and_then (λ n. slice_get xs n) o
  stated None e = ap (option_map (λ (pair : Slot × Subtable). pair.0)) (not_found part side xs ys e)
  stated (Some n) e =
      let lt = at_position part side xs n e in
      let x = read_at xs n no_slot lt in
      let y = read_at ys n (constant 0 0) (omega (arith, lt, many)) in
      ap (option_map (λ (pair : Slot × Subtable). pair.0)) (found_there part side xs ys n x.0 y.0 e x.1 y.1) ∙ sym x.1

flags_stated : (part side : ℕ) (xs : List Slot) (ys : List Subtable) → length xs ≡ length ys →
    option_map (λ pair. flags_of pair.1) (found part side (slotted xs ys)) ≡ option_and_then (λ n. item (map flags_of ys) n) (position (is_at part side) xs)
flags_stated part side xs ys many = stated (position (is_at part side) xs) refl where
  stated : (o : Option ℕ) → position (is_at part side) xs ≡ o → option_map (λ pair. flags_of pair.1) (found part side (slotted xs ys)) ≡ option_and_then (λ n. item (map flags_of ys) n) o
  stated None e = ap (option_map (λ (pair : Slot × Subtable). flags_of pair.1)) (not_found part side xs ys e)
  stated (Some n) e =
      let lt = at_position part side xs n e in
      let x = read_at xs n no_slot lt in
      let y = read_at ys n (constant 0 0) (omega (arith, lt, many)) in
      ap (option_map (λ (pair : Slot × Subtable). flags_of pair.1)) (found_there part side xs ys n x.0 y.0 e x.1 y.1)
      ∙ sym (item-slice_get (map flags_of ys) n ∙ slice_get-map flags_of ys n ∙ ap (option_map flags_of) y.1)

-- ---- a table's index

slot_many : (t : Contents) (filled : List ℕ) → IsAccepted t filled → length (slots t.material t.kind t.parts) ≡ length t.subtables
slot_many t filled h = side_lengths IsSubtable (slots t.material t.kind t.parts) t.subtables h.subtables

-- the index of an accepted table is valid
pub accepted_index : (t : Contents) (filled : List ℕ) → IsAccepted t filled → IsIndex (index_of t)
accepted_index t filled h = record {
  parts_are_valid = h.parts;
  flags_many = length-map t.subtables flags_of ∙ sym (slot_many t filled h);
  maps_many = λ dtz.
      let maps : SideBySide IsMapOf t.subtables t.maps = subst (λ (kind : Kind). AreMaps kind t.subtables t.maps) dtz h.maps in
      sym (side_lengths IsMapOf t.subtables t.maps maps) ∙ sym (length-map t.subtables flags_of);
}

-- the slot of a part and side
pub slot_of_table : (t : Contents) (filled : List ℕ) (part side : ℕ) → IsAccepted t filled → option_map (λ found. found.0) (subtable_at t part side) ≡ slot_in (index_of t) part side
slot_of_table t filled part side h = slot_stated part side (slots t.material t.kind t.parts) t.subtables (slot_many t filled h)

sized : (o : Option (Slot × Subtable)) → option_map (λ (slot : Slot). slot.size) (option_map (λ found. found.0) o) ≡ option_map (λ found. found.0.size) o
sized None = refl
sized (Some pair) = refl

-- the size of a part and side
pub size_of_table : (t : Contents) (filled : List ℕ) (part side : ℕ) → IsAccepted t filled →
    option_map (λ (slot : Slot). slot.size) (slot_in (index_of t) part side) ≡ option_map (λ found. found.0.size) (subtable_at t part side)
size_of_table t filled part side h = ap (option_map (λ (slot : Slot). slot.size)) (sym (slot_of_table t filled part side h)) ∙ sized (subtable_at t part side)

still_some : (o : Option (Slot × Subtable)) → IsSome o → IsSome (option_map (λ found. found.0) o)
still_some None h = absurd (cc h)
still_some (Some pair) h = refl

-- a subtable of the table has a slot
pub slot_there : (t : Contents) (filled : List ℕ) (part side : ℕ) → IsAccepted t filled → IsSome (subtable_at t part side) → IsSome (slot_in (index_of t) part side)
slot_there t filled part side h there =
    subst (λ (o : Option Slot). IsSome o) (slot_of_table t filled part side h) (still_some (subtable_at t part side) there)

number_stated : (o : Option (Slot × Subtable)) (flags : Option ℕ) (m : Option (Option Map)) (list : Option ℕ) (v : ℕ) → option_map (λ pair. flags_of pair.1) o ≡ flags →
    option_and_then (λ list. option_and_then (λ found. option_and_then (λ lists. number_at (flags_of found.1) lists list v) m) o) list
    ≡ option_and_then (λ list. option_and_then (λ flags. option_and_then (λ lists. number_at flags lists list v) m) flags) list
number_stated o flags m None v e = refl
number_stated None flags m (Some list) v e = ap (option_and_then (λ flags. option_and_then (λ lists. number_at flags lists list v) m)) e
number_stated (Some pair) flags m (Some list) v e = ap (option_and_then (λ flags. option_and_then (λ lists. number_at flags lists list v) m)) e

-- the distance of a value
pub number_of_table : (t : Contents) (filled : List ℕ) (part : ℕ) (class : ℤ) (v : ℕ) → IsAccepted t filled → number_of_value t part class v ≡ number_in (index_of t) part class v
number_of_table t filled part class v h =
    number_stated (subtable_at t part 0) (flags_in (index_of t) part 0) (item t.maps part) (list_number class) v
    (flags_stated part 0 (slots t.material t.kind t.parts) t.subtables (slot_many t filled h))

-- the distance of a value, by its list, its flags and its map
pub number_found : (x : Index) (part : ℕ) (class : ℤ) (v list n flags : ℕ) (m : Option Map) → list_number class ≡ Some list → slot_number x part 0 ≡ Some n → item x.flags n ≡ Some flags →
    item x.maps part ≡ Some m → number_in x part class v ≡ number_at flags m list v
number_found x part class v list n flags m class_is number_is flags_is map_is =
    ap (option_and_then (λ k. option_and_then (λ f. option_and_then (λ lists. number_at f lists k v) (item x.maps part)) (flags_in x part 0))) class_is
    ∙ ap (option_and_then (λ f. option_and_then (λ lists. number_at f lists list v) (item x.maps part))) (ap (option_and_then (λ k. item x.flags k)) number_is ∙ flags_is)
    ∙ ap (option_and_then (λ lists. number_at flags lists list v)) map_is

-- ---- maps

-- if a DTZ table has a subtable of a part, there is an item for it among the maps
pub mapped_index : (x : Index) (part n : ℕ) → IsIndex x → x.kind ≡ Dtz → slot_number x part 0 ≡ Some n → part < length x.maps
mapped_index x part n h dtz e =
    let xs : List Slot = slots x.material Dtz x.parts in
    let same : slots x.material x.kind x.parts ≡ xs = ap (λ (kind : Kind). slots x.material kind x.parts) dtz in
    let there : position (is_at part 0) xs ≡ Some n = subst (λ (l : List Slot). position (is_at part 0) l ≡ Some n) same e in
    let lt = at_position part 0 xs n there in
    let a = read_at xs n no_slot lt in
    let none : List Subtable = map (λ _. constant 0 0) xs in
    let many : length none ≡ length xs = length-map xs (λ _. constant 0 0) in
    let b = read_at none n (constant 0 0) (omega (arith, lt, many)) in
    let some : IsSome (found part 0 (slotted xs none)) = rw (found_there part 0 xs none n a.0 b.0 there a.1 b.1) refl in
    let below = part_below x.material 0 x.parts none part some in
    let parts = slot_count x.material 0 x.parts in
    let flags = h.flags_many in
    let slots_are = ap length same in
    let maps = h.maps_many dtz in
    omega (arith, below, parts, flags, slots_are, maps)

-- ---- a table that owns its index

-- the index of a table's subtables is the index of the table
pub stated_index : (t : Contents) (given held : List Sub) (x : Index) → given ≡ held → x ≡ index_with t.material t.kind t.parts (map flags_of (map subtable_of given)) t.maps →
    map subtable_of held ≡ t.subtables → x ≡ index_of t
stated_index t given held x same e subs =
    e ∙ ap (λ (l : List Sub). index_with t.material t.kind t.parts (map flags_of (map subtable_of l)) t.maps) same
    ∙ ap (λ (l : List Subtable). index_with t.material t.kind t.parts (map flags_of l) t.maps) subs

-- the table equals the contents with its index
pub owned : (t : Contents) (filled : List ℕ) (x : Index) → IsAccepted t filled → x ≡ index_of t →
    IsAccepted (contents_with x t.byte4 t.subtables t.last) filled × (x ≡ index_of (contents_with x t.byte4 t.subtables t.last))
owned t filled x h e = (
  subst (λ (y : Index). IsAccepted (contents_with y t.byte4 t.subtables t.last) filled) (sym e) h,
  e ∙ ap (λ (y : Index). index_of (contents_with y t.byte4 t.subtables t.last)) (sym e),
)
