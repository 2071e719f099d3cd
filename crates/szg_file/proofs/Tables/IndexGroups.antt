-- The groups that an index keeps: each slot's side of its part has an order without a fault, and the slots' numbers.
use Rattle.std.proofs.Common.{◌≡◌, ℕ, zero, suc, ◌+◌, ◌*◌, ◌<◌, ◌≤◌, inl, inr, List, [], ◌∷◌, ◌++◌, length, map, take, get_or, length-take, refl, sym, ap, ◌∙◌, subst, Bool, true, false, cond, arith, Some, None, Option}
use Rattle.std.specs.Prelude.{slice_get, unwrap_or, option_map, IsSomeAnd}
use Rattle.std.specs.List.{AllByRecursion}
use Rattle.std.proofs.lemmas.List.{length-map, take_more}
use Rattle.std.proofs.lemmas.Option.{slice_get-get_or, slice_get-map}
use Rattle.szg_values.specs.declared.Kind.{Kind}
use Rattle.szg_values.specs.declared.Kind.TheVariants.{Wdl, Dtz}
use Rattle.szg_values.specs.Material.{Sides, IsMaterial, has_pawns, is_symmetric}
use Rattle.szg_count.specs.Groups.{nibble, nibbles_of, order_fault, size_of}
use Rattle.szg_count.specs.Grouped.{AreGroupsOf}
use Rattle.szg_count.specs.Laws.{IsIn}
use Rattle.szg_count.specs.declared.side_groups.SideGroups.{SideGroups}
use Rattle.szg_count.proofs.Differ.{IsIn-append, IsIn-map}
use Rattle.szg_count.proofs.Pawns.{peopled}
use Rattle.szg_file.specs.Accepted.{SideBySide, IsPart}
use Rattle.szg_file.specs.Contents.{Map, Part, Slot, order_of, part_numbers, part_slots, side_numbers, slots, slots_from}
use Rattle.szg_file.specs.Held.{part_of}
use Rattle.szg_file.specs.Index.{AreSlotGroups, Index, IsOrderedSlot, index_with, nibbles_in_part}
use Rattle.szg_file.specs.declared.table.PartBytes.{PartBytes}
use Rattle.szg_file.proofs.Tables.AssembledLaws.{side-append}
use Rattle.szg_file.proofs.Tables.TableFinds.{side_lengths}

-- ---- a slot's part and side

record IsOf (k : ℕ) (sides : List ℕ) (rest : List Part) (slot : Slot) : Type 0 where
  i : ℕ
  part : Part
  there : slice_get rest i ≡ Some part
  number : slot.part ≡ k + i
  side : IsIn slot.side sides

of_part : (material : Sides) (sides : List ℕ) (k : ℕ) (rest : List Part) (slot : Slot) → IsIn slot (slots_from material sides k rest) → IsOf k sides rest slot
of_part material sides k [] slot h = absurd h
of_part material sides k (part ∷ rest) slot h = elim (IsIn-append slot (part_slots material sides k part) (slots_from material sides (k + 1) rest) h) [
  | inl a ↦
      let r = IsIn-map (λ side. let made : Slot = record { part = k; side = side; size = size_of material k (order_of side part) } in made) sides slot a in
      let p : slot.part ≡ k = ap (λ (s : Slot). s.part) r.2 in record {
        i = 0;
        part = part;
        there = refl;
        number = omega (arith, p);
        side = subst (λ (n : ℕ). IsIn n sides) (sym (ap (λ (s : Slot). s.side) r.2)) r.1;
      }
  | inr b ↦ let r = of_part material sides (k + 1) rest slot b in let p = r.number in record {
    i = suc r.i;
    part = r.part;
    there = r.there;
    number = omega (arith, p);
    side = r.side;
  }
]

-- ---- parts that pass their checks

part_there : {A B : Type 0} (Q : B → Type 0) (xs : List A) (ys : List B) (i : ℕ) (y : B) → SideBySide (λ _. Q) xs ys → slice_get ys i ≡ Some y → (i < length xs) × (i < length ys) × Q y
part_there Q [] [] i y h e = absurd (let f : None ≡ Some y = e in cc f)
part_there Q [] (z ∷ ys) i y h e = absurd h
part_there Q (x ∷ xs) [] i y h e = absurd h
part_there Q (x ∷ xs) (z ∷ ys) zero y h e = let same : z ≡ y = cc e in (omega arith, omega arith, subst Q same h.0)
part_there Q (x ∷ xs) (z ∷ ys) (suc i) y h e = let r = part_there Q xs ys i y h.1 e in let a = r.0 in let b = r.1 in (omega (arith, a), omega (arith, b), r.2)

in_all : (Q : ℕ → Type 0) (xs : List ℕ) (x : ℕ) → AllByRecursion Q xs → IsIn x xs → Q x
in_all Q [] x h i = absurd i
in_all Q (y ∷ xs) x h (inl e) = subst Q (sym e) h.0
in_all Q (y ∷ xs) x h (inr i) = in_all Q xs x h.1 i

parts_many : (b : Bool) (i : ℕ) → i < length {A = ℕ} (cond b (0 ∷ 1 ∷ 2 ∷ 3 ∷ []) (0 ∷ [])) → i < cond b 4 1
parts_many true i h = h
parts_many false i h = h

two_sides : (material : Sides) (kind : Kind) (side : ℕ) → IsIn side (side_numbers material kind) → side < 2
two_sides material Dtz side (inl e) = omega (arith, e)
two_sides material Dtz side (inr h) = absurd h
two_sides material Wdl side h = either (is_symmetric material) h where
  either : (b : Bool) → IsIn side (cond b (0 ∷ []) (0 ∷ 1 ∷ [])) → side < 2
  either true (inl e) = omega (arith, e)
  either true (inr i) = absurd i
  either false (inl e) = omega (arith, e)
  either false (inr (inl e)) = omega (arith, e)
  either false (inr (inr i)) = absurd i

-- each slot's part exists, and the nibbles of its side have no fault
pub ordered_slot : (material : Sides) (kind : Kind) (parts : List Part) (slot : Slot) → IsMaterial material → SideBySide (λ _. IsPart material kind) (part_numbers material) parts →
    IsIn slot (slots material kind parts) → IsOrderedSlot material parts slot
ordered_slot material kind parts slot m valid h =
    let r = of_part material (side_numbers material kind) 0 parts slot h in
    let p = part_there (IsPart material kind) (part_numbers material) parts r.i r.part valid r.there in
    let number : slot.part ≡ r.i = (let n = r.number in omega (arith, n)) in
    let there : slice_get parts slot.part ≡ Some r.part = ap (slice_get parts) number ∙ r.there in
    let same : nibbles_in_part parts slot.part slot.side ≡ order_of slot.side r.part =
    ap (λ (o : Option Part). let q = unwrap_or o (let none : Part = record { order = []; men = [] } in none) in nibbles_of slot.side q.order q.men) there in
    let many = p.2.men.0 in let few = (peopled material m).few in let long = length-map r.part.men (nibble slot.side) in
    let inside = p.1 in let below = parts_many (has_pawns material) r.i p.0 in record {
      part = omega (arith, number, inside);
      is_part = subst (λ (n : ℕ). n < cond (has_pawns material) 4 1) (sym number) below;
      side = two_sides material kind slot.side r.side;
      few = subst (λ n. length n.men ≤ 6) (sym same) (omega (arith, many, few, long));
      ordered = ap (order_fault material) same ∙ in_all (λ side. order_fault material (order_of side r.part) ≡ None) (side_numbers material kind) slot.side p.2.sides r.side;
    }

-- ---- the number of a slot

-- an item of one list, beside that of the other list
pub beside : {A B : Type 0} (P : A → B → Type 0) (xs : List A) (ys : List B) (n : ℕ) (x : A) → SideBySide P xs ys → slice_get xs n ≡ Some x → (n < length ys) × ((y : B) → slice_get ys n ≡ Some y → P x y)
beside P [] ys n x h e = absurd (let f : None ≡ Some x = e in cc f)
beside P (z ∷ xs) [] n x h e = absurd h
beside P (z ∷ xs) (w ∷ ys) zero x h e =
    let same : z ≡ x = cc e in (omega arith, (λ y f. let same' : w ≡ y = cc f in subst (λ v. P x v) same' (subst (λ v. P v w) same h.0)))
beside P (z ∷ xs) (w ∷ ys) (suc n) x h e = let r = beside P xs ys n x h.1 e in let a = r.0 in (omega (arith, a), r.1)

pub record IsSlotAt (k part side : ℕ) (slot : Slot) : Type 0 where
  pub part_is : slot.part ≡ k + part
  pub side_is : slot.side ≡ side

one_side : (material : Sides) (k : ℕ) (parts : List Part) (part : ℕ) → part < length parts → (slot : Slot) × (slice_get (slots_from material (0 ∷ []) k parts) part ≡ Some slot) × IsSlotAt k part 0 slot
one_side material k [] part h = absurd (omega (arith, h))
one_side material k (p ∷ parts) zero h = (_, refl, record { part_is = omega arith; side_is = refl })
one_side material k (p ∷ parts) (suc part) h =
    let r = one_side material (k + 1) parts part (omega (arith, h)) in let e = r.2.part_is in
    (r.0, r.1, record { part_is = omega (arith, e); side_is = r.2.side_is })

both_sides : (material : Sides) (k : ℕ) (parts : List Part) (part side : ℕ) → part < length parts → side < 2 →
    (slot : Slot) × (slice_get (slots_from material (0 ∷ 1 ∷ []) k parts) (2 * part + side) ≡ Some slot) × IsSlotAt k part side slot
both_sides material k [] part side h l = absurd (omega (arith, h))
both_sides material k (p ∷ parts) zero zero h l = (_, refl, record { part_is = omega arith; side_is = refl })
both_sides material k (p ∷ parts) zero (suc zero) h l = (_, refl, record { part_is = omega arith; side_is = refl })
both_sides material k (p ∷ parts) zero (suc (suc side)) h l = absurd (omega (arith, l))
both_sides material k (p ∷ parts) (suc part) side h l =
    let r = both_sides material (k + 1) parts part side (omega (arith, h)) l in let e = r.2.part_is in
    let n : 2 * suc part + side ≡ suc (suc (2 * part + side)) = omega arith in
    (r.0, ap (slice_get (slots_from material (0 ∷ 1 ∷ []) k (p ∷ parts))) n ∙ r.1, record { part_is = omega (arith, e); side_is = r.2.side_is })

-- the slot of a part and side has the number that the code computes
pub slot_numbered : (material : Sides) (kind : Kind) (parts : List Part) (part side number : ℕ) (two : Bool) → side_numbers material kind ≡ cond two (0 ∷ 1 ∷ []) (0 ∷ []) →
    number ≡ cond two (2 * part + side) part → part < length parts → side < length (side_numbers material kind) →
    (slot : Slot) × (slice_get (slots material kind parts) number ≡ Some slot) × IsSlotAt 0 part side slot
slot_numbered material kind parts part side number true e n h l =
    let long = ap length e in let r = both_sides material 0 parts part side h (omega (arith, l, long)) in
    (r.0, ap (λ (xs : List ℕ). slice_get (slots_from material xs 0 parts) number) e ∙ ap (slice_get (slots_from material (0 ∷ 1 ∷ []) 0 parts)) n ∙ r.1, r.2)
slot_numbered material kind parts part side number false e n h l =
    let long = ap length e in let r = one_side material 0 parts part h in let zero_side : side ≡ 0 = omega (arith, l, long) in
    (r.0, ap (λ (xs : List ℕ). slice_get (slots_from material xs 0 parts) number) e ∙ ap (slice_get (slots_from material (0 ∷ []) 0 parts)) n ∙ r.1, record { part_is = r.2.part_is; side_is = r.2.side_is ∙ sym zero_side })

-- the nibbles of a part in memory
pub nibbles_held : (parts : List PartBytes) (i side : ℕ) (bytes : PartBytes) → i < length parts → bytes ≡ get_or parts i bytes →
    nibbles_in_part (map part_of parts) i side ≡ nibbles_of side bytes.order.items bytes.men.items
nibbles_held parts i side bytes h e =
    let there : slice_get (map part_of parts) i ≡ Some (part_of bytes) = slice_get-map part_of parts i ∙ ap (option_map part_of) (slice_get-get_or parts i bytes h ∙ ap Some (sym e)) in
    ap (λ (o : Option Part). let q = unwrap_or o (let none : Part = record { order = []; men = [] } in none) in nibbles_of side q.order q.men) there

pub nibbles_read : (parts : List PartBytes) (part side from : ℕ) (bytes : PartBytes) (order men : List ℕ) → part < length parts → from ≡ part → bytes ≡ get_or parts from bytes →
    order ≡ bytes.order.items → men ≡ bytes.men.items → nibbles_of side order men ≡ nibbles_in_part (map part_of parts) part side
nibbles_read parts part side from bytes order men h e f a b =
    ap (λ l. nibbles_of side l men) a ∙ ap (nibbles_of side bytes.order.items) b ∙ sym (nibbles_held parts part side bytes h (f ∙ ap (λ n. get_or parts n bytes) e))

-- ---- the groups while they are listed

pub groups_more : (P : Slot → Option SideGroups → Type 0) (xs : List Slot) (ys more : List (Option SideGroups)) (i : ℕ) (slot : Slot) (o : Option SideGroups) → i < length xs → slot ≡ get_or xs i slot →
    more ≡ ys ++ o ∷ [] → SideBySide P (take i xs) ys → P slot o → SideBySide P (take (i + 1) xs) more
groups_more P xs ys more i slot o h e f before here =
    subst (λ (l : List (Option SideGroups)). SideBySide P (take (i + 1) xs) l) (sym f)
    (subst (λ (l : List Slot). SideBySide P l (ys ++ o ∷ [])) (ap (λ (s : Slot). take i xs ++ s ∷ []) e ∙ sym (take_more xs i slot h)) (side-append P (take i xs) ys slot o before here))

pub groups_so_far : (P : Slot → Option SideGroups → Type 0) (xs : List Slot) (ys : List (Option SideGroups)) (i : ℕ) → i < length xs → length xs ≤ 8 → SideBySide P (take i xs) ys → length ys < 8
groups_so_far P xs ys i h few before =
    let a = side_lengths P (take i xs) ys before in let b = length-take i xs in omega (arith, a, b, h, few)

-- ---- the groups of a part and side

found_in : (material : Sides) (kind : Kind) (parts : List Part) (slots_are : List Slot) (groups : List (Option SideGroups)) (part side number : ℕ) (two : Bool) →
    slots_are ≡ slots material kind parts → SideBySide (AreSlotGroups material parts) slots_are groups → side_numbers material kind ≡ cond two (0 ∷ 1 ∷ []) (0 ∷ []) →
    number ≡ cond two (2 * part + side) part → part < length parts → side < length (side_numbers material kind) →
    (number < length groups) × ((o : Option SideGroups) → slice_get groups number ≡ Some o → IsSomeAnd o (AreGroupsOf material part (nibbles_in_part parts part side)))
found_in material kind parts slots_are groups part side number two e held s n p q =
    let r = slot_numbered material kind parts part side number two s n p q in
    let b = beside (AreSlotGroups material parts) slots_are groups number r.0 held (ap (λ (l : List Slot). slice_get l number) e ∙ r.1) in
    let zero_more : 0 + part ≡ part = omega arith in (
      b.0,
      (λ o f. subst (λ (k : ℕ). IsSomeAnd o (AreGroupsOf material k (nibbles_in_part parts k side))) (r.2.part_is ∙ zero_more)
          (subst (λ (k : ℕ). IsSomeAnd o (AreGroupsOf material r.0.part (nibbles_in_part parts r.0.part k))) r.2.side_is (b.1 o f))),
    )

pub groups_found : (x : Index) (material : Sides) (kind : Kind) (parts : List Part) (flags : List ℕ) (maps : List (Option Map)) (slots_are : List Slot) (groups : List (Option SideGroups))
    (part side number : ℕ) (two : Bool) → index_with material kind parts flags maps ≡ x → slots_are ≡ slots material kind parts →
    SideBySide (AreSlotGroups material parts) slots_are groups → side_numbers x.material x.kind ≡ cond two (0 ∷ 1 ∷ []) (0 ∷ []) →
    number ≡ cond two (2 * part + side) part → part < length x.parts → side < length (side_numbers x.material x.kind) →
    (number < length groups) × ((o : Option SideGroups) → slice_get groups number ≡ Some o → IsSomeAnd o (AreGroupsOf x.material part (nibbles_in_part x.parts part side)))
groups_found x material kind parts flags maps slots_are groups part side number two v e held =
    subst (λ (y : Index). side_numbers y.material y.kind ≡ cond two (0 ∷ 1 ∷ []) (0 ∷ []) → number ≡ cond two (2 * part + side) part → part < length y.parts → side < length (side_numbers y.material y.kind) →
    (number < length groups) × ((o : Option SideGroups) → slice_get groups number ≡ Some o → IsSomeAnd o (AreGroupsOf y.material part (nibbles_in_part y.parts part side)))) v
    (found_in material kind parts slots_are groups part side number two e held)
