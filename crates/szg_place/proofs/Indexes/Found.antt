-- Which slots a TableIndex has, and their sizes.
use Rattle.std.proofs.Common.{◌≡◌, ℕ, zero, suc, ◌+◌, ◌<◌, inl, inr, List, [], ◌∷◌, length, map, refl, subst, Some, Option, option_map, sym, ap, ◌∙◌, Bool, true, false, cond, arith}
use Rattle.std.specs.Prelude.{slice_get, unwrap_or, None, IsSome, IsSomeAnd, IfSome, nat_eq, ◌&&◌}
use Rattle.std.proofs.lemmas.List.{length-map}
use Rattle.std.proofs.lemmas.Bool.{cases_Bool, eqb-true, eq-eqb, ne_eqb, and_parts}
use Rattle.szg_values.specs.declared.Kind.{Kind}
use Rattle.szg_values.specs.declared.Kind.TheVariants.{Wdl, Dtz}
use Rattle.szg_values.specs.Material.{Sides, is_symmetric}
use Rattle.szg_count.specs.Groups.{size_of}
use Rattle.szg_file.specs.Contents.{Part, Subtable, constant, Contents, Slot, slots_from, slots, order_of, side_numbers, part_numbers}
use Rattle.szg_file.specs.Accepted.{SideBySide, IsPart}
use Rattle.szg_file.specs.Values.{slotted, found, subtable_at}
use Rattle.szg_file.specs.Index.{Index, IsIndex, contents_with, slots_in, slot_in}
use Rattle.szg_file.proofs.Tables.IndexLaws.{slot_stated}
use Rattle.szg_file.proofs.Tables.TableFinds.{side_lengths}
use Rattle.szg_place.specs.Layout.{part_count, side_count, is_dtz}
use Rattle.szg_place.specs.Spots.{size_at}
use Rattle.szg_place.specs.Tables.{numbering_of, numbering_in}
use Rattle.szg_place.proofs.Indexes.Accepted.{parts_many}

abbrev part_at : List Part → ℕ → Part
part_at parts i = unwrap_or (slice_get parts i) (record { order = []; men = [] })

-- the subtable of part i exists and has its size
HasSize : Sides → List ℕ → ℕ → List Part → List Subtable → ℕ → ℕ → ℕ → Type 0
HasSize m sides number parts ys i part side =
    IsSomeAnd (found part side (slotted (slots_from m sides number parts) ys)) (λ f. f.0.size ≡ size_of m part (order_of side (part_at parts i)))

one_side : (m : Sides) (number : ℕ) (parts : List Part) (ys : List Subtable) (i part : ℕ) → length ys ≡ length (slots_from m (0 ∷ []) number parts) → i < length parts → part ≡ number + i →
    HasSize m (0 ∷ []) number parts ys i part 0
unfolding HasSize
one_side m number [] ys i part e h p = absurd (omega arith)
one_side m number (q ∷ parts) [] i part e h p = absurd (let k : 0 ≡ suc (length (slots_from m (0 ∷ []) (number + 1) parts)) = e in omega (arith, k))
one_side m number (q ∷ parts) (y ∷ ys) zero part e h p =
    let k : number ≡ part = omega arith in let t : nat_eq number part ≡ true = eq-eqb number part k in
    rw t (ap (λ n. size_of m n (order_of 0 q)) k)
one_side m number (q ∷ parts) (y ∷ ys) (suc i) part e h p =
    let f : nat_eq number part ≡ false = ne_eqb number part (λ k. omega (arith, k, p)) in
    rw f (one_side m (number + 1) parts ys i part (let k : suc (length ys) ≡ suc (length (slots_from m (0 ∷ []) (number + 1) parts)) = e in omega (arith, k)) (omega arith) (omega arith))

two_sides : (m : Sides) (number : ℕ) (parts : List Part) (ys : List Subtable) (i part side : ℕ) → length ys ≡ length (slots_from m (0 ∷ 1 ∷ []) number parts) → i < length parts → part ≡ number + i → side < 2 →
    HasSize m (0 ∷ 1 ∷ []) number parts ys i part side
unfolding HasSize
two_sides m number [] ys i part side e h p s = absurd (omega arith)
two_sides m number (q ∷ parts) [] i part side e h p s = absurd (let k : 0 ≡ suc (suc (length (slots_from m (0 ∷ 1 ∷ []) (number + 1) parts))) = e in omega (arith, k))
two_sides m number (q ∷ parts) (y ∷ []) i part side e h p s = absurd (let k : 1 ≡ suc (suc (length (slots_from m (0 ∷ 1 ∷ []) (number + 1) parts))) = e in omega (arith, k))
two_sides m number (q ∷ parts) (y ∷ z ∷ ys) zero part zero e h p s =
    let k : number ≡ part = omega arith in let t : nat_eq number part ≡ true = eq-eqb number part k in
    rw t (ap (λ n. size_of m n (order_of 0 q)) k)
two_sides m number (q ∷ parts) (y ∷ z ∷ ys) zero part (suc zero) e h p s =
    let k : number ≡ part = omega arith in let t : nat_eq number part ≡ true = eq-eqb number part k in
    rw t (ap (λ n. size_of m n (order_of 1 q)) k)
two_sides m number (q ∷ parts) (y ∷ z ∷ ys) zero part (suc (suc side)) e h p s = absurd (omega arith)
two_sides m number (q ∷ parts) (y ∷ z ∷ ys) (suc i) part side e h p s =
    let f : nat_eq number part ≡ false = ne_eqb number part (λ k. omega (arith, k, p)) in
    rw f (two_sides m (number + 1) parts ys i part side (let k : suc (suc (length ys)) ≡ suc (suc (length (slots_from m (0 ∷ 1 ∷ []) (number + 1) parts))) = e in omega (arith, k)) (omega arith) (omega arith) s)

-- what a table needs so that its slots can be found: parts that pass their checks, and one subtable for each slot
pub record HasSlots (t : Contents) : Type 0 where
  pub parts : SideBySide (λ _. IsPart t.material t.kind) (part_numbers t.material) t.parts
  pub many : length t.subtables ≡ length (slots t.material t.kind t.parts)

parts_there : (t : Contents) → HasSlots t → length t.parts ≡ part_count (numbering_of t)
parts_there t a = sym (side_lengths (λ _. IsPart t.material t.kind) (part_numbers t.material) t.parts a.parts) ∙ parts_many t.material

-- each part and side of an accepted table has a subtable, with the size that its groups give
size_there : (t : Contents) (part side : ℕ) → HasSlots t → part < part_count (numbering_of t) → side < side_count (numbering_of t) →
    IsSomeAnd (subtable_at t part side) (λ found. found.0.size ≡ size_at (numbering_of t) part side)
unfolding HasSize size_of
size_there t part side a p s =
    let many = parts_there t a in
    by_kind t.kind a.many s (omega (arith, many, p))
  where
    by_kind : (kind : Kind) → length t.subtables ≡ length (slots t.material kind t.parts) → side < cond (is_dtz kind) 1 (cond (is_symmetric t.material) 1 2) → part < length t.parts →
        HasSize t.material (side_numbers t.material kind) 0 t.parts t.subtables part part side
    by_kind Dtz e s l = alone side s where
      alone : (side : ℕ) → side < 1 → HasSize t.material (0 ∷ []) 0 t.parts t.subtables part part side
      alone zero s = one_side t.material 0 t.parts t.subtables part part e l (omega arith)
      alone (suc side) s = absurd (omega arith)
    by_kind Wdl e s l = either (is_symmetric t.material) e s where
      either : (b : Bool) → length t.subtables ≡ length (slots_from t.material (cond b (0 ∷ []) (0 ∷ 1 ∷ [])) 0 t.parts) → side < cond false 1 (cond b 1 2) →
          HasSize t.material (cond b (0 ∷ []) (0 ∷ 1 ∷ [])) 0 t.parts t.subtables part part side
      either true e s = alone side s where
        alone : (side : ℕ) → side < 1 → HasSize t.material (0 ∷ []) 0 t.parts t.subtables part part side
        alone zero s = one_side t.material 0 t.parts t.subtables part part e l (omega arith)
        alone (suc side) s = absurd (omega arith)
      either false e s = two_sides t.material 0 t.parts t.subtables part part side e l (omega arith) s

-- ---- a table has no other subtables

none_there : {X : Type 0} → IsSome {T = Slot × Subtable} None → X
none_there e = cc

IsBelow : ℕ → ℕ → ℕ → ℕ → Type 0
IsBelow part side parts sides = (part < parts) × (side < sides)

in_one : (m : Sides) (number : ℕ) (parts : List Part) (ys : List Subtable) (part side : ℕ) → IsSome (found part side (slotted (slots_from m (0 ∷ []) number parts) ys)) → IsBelow part side (number + length parts) 1
unfolding IsBelow
in_one m number [] ys part side e = none_there e
in_one m number (q ∷ parts) [] part side e = none_there e
in_one m number (q ∷ parts) (y ∷ ys) part side e = elim (cases_Bool (nat_eq number part && nat_eq 0 side)) [
  | inl t ↦ let r = and_parts (nat_eq number part) (nat_eq 0 side) t in let a = eqb-true number part r.0 in let b = eqb-true 0 side r.1 in (omega (arith, a), omega (arith, b))
  | inr f ↦ let g : IsSome (found part side (slotted (slots_from m (0 ∷ []) (number + 1) parts) ys)) = rw f at e in
      let r = in_one m (number + 1) parts ys part side g in (omega (arith, r), r.1)
]

in_two : (m : Sides) (number : ℕ) (parts : List Part) (ys : List Subtable) (part side : ℕ) → IsSome (found part side (slotted (slots_from m (0 ∷ 1 ∷ []) number parts) ys)) → IsBelow part side (number + length parts) 2
unfolding IsBelow
in_two m number [] ys part side e = none_there e
in_two m number (q ∷ parts) [] part side e = none_there e
in_two m number (q ∷ parts) (y ∷ []) part side e = elim (cases_Bool (nat_eq number part && nat_eq 0 side)) [
  | inl t ↦ let r = and_parts (nat_eq number part) (nat_eq 0 side) t in let a = eqb-true number part r.0 in let b = eqb-true 0 side r.1 in (omega (arith, a), omega (arith, b))
  | inr f ↦ none_there (let g : IsSome {T = Slot × Subtable} None = rw f at e in g)
]
in_two m number (q ∷ parts) (y ∷ z ∷ ys) part side e = elim (cases_Bool (nat_eq number part && nat_eq 0 side)) [
  | inl t ↦ let r = and_parts (nat_eq number part) (nat_eq 0 side) t in let a = eqb-true number part r.0 in let b = eqb-true 0 side r.1 in (omega (arith, a), omega (arith, b))
  | inr f ↦ elim (cases_Bool (nat_eq number part && nat_eq 1 side)) [
    | inl t ↦ let r = and_parts (nat_eq number part) (nat_eq 1 side) t in let a = eqb-true number part r.0 in let b = eqb-true 1 side r.1 in (omega (arith, a), omega (arith, b))
    | inr n ↦ let g : IsSome (found part side (slotted (slots_from m (0 ∷ 1 ∷ []) (number + 1) parts) ys)) = rw (f, n) at e in
        let r = in_two m (number + 1) parts ys part side g in (omega (arith, r), r.1)
  ]
]

there_below : (t : Contents) (part side : ℕ) → HasSlots t → IsSome (subtable_at t part side) → (part < part_count (numbering_of t)) × (side < side_count (numbering_of t))
unfolding IsBelow
there_below t part side a e =
    let many = parts_there t a in
    let r = by_kind t.kind e in
    (omega (arith, r, many), r.1)
  where
    by_kind : (kind : Kind) → IsSome (found part side (slotted (slots t.material kind t.parts) t.subtables)) → IsBelow part side (0 + length t.parts) (cond (is_dtz kind) 1 (cond (is_symmetric t.material) 1 2))
    by_kind Dtz e = in_one t.material 0 t.parts t.subtables part side e
    by_kind Wdl e = either (is_symmetric t.material) e where
      either : (b : Bool) → IsSome (found part side (slotted (slots_from t.material (cond b (0 ∷ []) (0 ∷ 1 ∷ [])) 0 t.parts) t.subtables)) → IsBelow part side (0 + length t.parts) (cond false 1 (cond b 1 2))
      either true e = in_one t.material 0 t.parts t.subtables part side e
      either false e = in_two t.material 0 t.parts t.subtables part side e

-- ---- the same laws for a TableIndex

-- contents with the parts of a TableIndex, and one subtable for each slot
fake : Index → Contents
fake x = contents_with x 0 (map (λ _. constant 0 0) (slots_in x)) []

abbrev pub first_of : Option (Slot × Subtable) → Option Slot
first_of o = option_map (λ found. found.0) o

first_some : (P : Slot → Type 0) (o : Option (Slot × Subtable)) → IsSomeAnd o (λ found. P found.0) → IsSomeAnd (first_of o) P
first_some P None h = absurd h
first_some P (Some x) h = h

pub if_first : (P : Slot → Type 0) (o : Option (Slot × Subtable)) → IfSome o (λ found. P found.0) → IfSome (first_of o) P
if_first P None h = tt
if_first P (Some x) h = h

pub some_first : (P : Slot → Type 0) (o : Option (Slot × Subtable)) → IsSomeAnd (first_of o) P → IsSomeAnd o (λ found. P found.0)
some_first P None h = absurd h
some_first P (Some x) h = h

is_first : (o : Option (Slot × Subtable)) → IsSome (first_of o) → IsSome o
is_first None h = absurd (cc h)
is_first (Some x) h = refl

-- each part and side of a TableIndex has a slot, with the size that its groups give
pub slot_size : (x : Index) (part side : ℕ) → IsIndex x → part < part_count (numbering_in x) → side < side_count (numbering_in x) →
    IsSomeAnd (slot_in x part side) (λ slot. slot.size ≡ size_at (numbering_in x) part side)
unfolding fake
slot_size x part side h p s =
    let many : length (fake x).subtables ≡ length (slots_in x) = length-map (slots_in x) (λ _. constant 0 0) in
    let there = size_there (fake x) part side (record { parts = h.parts_are_valid; many = many }) p s in
    subst (λ (o : Option Slot). IsSomeAnd o (λ slot. slot.size ≡ size_at (numbering_in x) part side)) (slot_stated part side (slots_in x) (fake x).subtables (sym many))
    (first_some (λ slot. slot.size ≡ size_at (numbering_in x) part side) (subtable_at (fake x) part side) there)

pub slot_below : (x : Index) (part side : ℕ) → IsIndex x → IsSome (slot_in x part side) → (part < part_count (numbering_in x)) × (side < side_count (numbering_in x))
unfolding fake
slot_below x part side h some =
    let many : length (fake x).subtables ≡ length (slots_in x) = length-map (slots_in x) (λ _. constant 0 0) in
    there_below (fake x) part side (record { parts = h.parts_are_valid; many = many })
    (is_first (subtable_at (fake x) part side) (subst (λ (o : Option Slot). IsSome o) (sym (slot_stated part side (slots_in x) (fake x).subtables (sym many))) some))
