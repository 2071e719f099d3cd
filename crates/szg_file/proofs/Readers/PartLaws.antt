-- The sizes of groups, and the slots of one more part.
use Rattle.std.proofs.Common.{cond, map-id, ◌≡◌, ℕ, zero, suc, ◌+◌, ◌≤◌, List, [], ◌∷◌, ◌++◌, length, map, slice_index, refl, sym, ap, ◌∙◌, arith, append_assoc, append-nil}
use Rattle.std.specs.List.{range_with_len}
use Rattle.std.specs.Prelude.{Result, Ok, Err, Option, Some, None, IsNone, IfSome}
use Rattle.std.proofs.Math.Seq.{get_or-append_seam}
use Rattle.std.proofs.lemmas.List.{length-append, length-map}
use Rattle.std.proofs.lemmas.List.FromFn.{length-map-range_with_len, map-range_with_len_more}
use Rattle.std.specs.Prelude.{Bool, true, false}
use Rattle.szg_values.specs.Material.{Sides, is_symmetric}
use Rattle.szg_values.specs.declared.Kind.{Kind}
use Rattle.szg_values.specs.declared.Kind.TheVariants.{Wdl, Dtz}
use Rattle.szg_count.specs.Groups.{Nibbles, counted, size_of, ways_of, group_ways, groups_of, product}
use Rattle.szg_count.specs.Views.{group_at, groups_in_slot_order}
use Rattle.szg_file.specs.Contents.{Part, Slot, order_of, part_slots, side_numbers, slots_from}

-- the items of a list by their indexes
indexed_from : (front xs : List ℕ) → map (slice_index (front ++ xs)) (range_with_len (length front) (length xs)) ≡ xs
indexed_from front [] = refl
indexed_from front (x ∷ xs) =
    let more : (front ++ x ∷ []) ++ xs ≡ front ++ (x ∷ xs) = append_assoc front (x ∷ []) xs in
    let longer : length (front ++ x ∷ []) ≡ length front + 1 = length-append front (x ∷ []) in
    ap (λ (y : ℕ). y ∷ map (slice_index (front ++ (x ∷ xs))) (range_with_len (length front + 1) (length xs))) (get_or-append_seam front x xs 0)
    ∙ ap (λ (z : List ℕ). x ∷ map (slice_index z) (range_with_len (length front + 1) (length xs))) (sym more)
    ∙ ap (λ (n : ℕ). x ∷ map (slice_index ((front ++ x ∷ []) ++ xs)) (range_with_len n (length xs))) (sym longer)
    ∙ ap (λ (z : List ℕ). x ∷ z) (indexed_from (front ++ x ∷ []) xs)

-- two ways to list the ways of groups
ways_stated : {A : Type 0} (ways : A → ℕ) (stated : ℕ → A) (list : List ℕ) (indexes : List ℕ) → ((i : ℕ) → ways (stated i) ≡ slice_index list i) →
    map ways (map stated indexes) ≡ map (slice_index list) indexes
ways_stated ways stated list [] h = refl
ways_stated ways stated list (i ∷ indexes) h =
    ap (λ (n : ℕ). n ∷ map ways (map stated indexes)) (h i) ∙ ap (λ (z : List ℕ). slice_index list i ∷ z) (ways_stated ways stated list indexes h)

pub size_stated : (sides : Sides) (part : ℕ) (n : Nibbles) → product (map (λ group. group.ways) (groups_in_slot_order (counted sides part n))) ≡ size_of sides part n
unfolding groups_in_slot_order counted size_of
size_stated sides part n =
    let ways : List ℕ = ways_of sides part (groups_of sides n.men) in
    let count : ℕ = length (groups_of sides n.men) in
    let long : length ways ≡ count = length-map-range_with_len (group_ways sides part (groups_of sides n.men)) 0 count in
    ap product
    (ways_stated (λ group. group.ways) (group_at (counted sides part n)) ways (range_with_len 0 count) (λ i. refl)
    ∙ ap (λ (k : ℕ). map (slice_index ways) (range_with_len 0 k)) (sym long)
    ∙ indexed_from [] ways)

-- the slots of one more part
pub slots-more : (material : Sides) (sides : List ℕ) (number : ℕ) (parts : List Part) (part : Part) →
    slots_from material sides number (parts ++ part ∷ []) ≡ slots_from material sides number parts ++ part_slots material sides (number + length parts) part
slots-more material sides number [] part =
    let e : number ≡ number + 0 = omega arith in
    append-nil (part_slots material sides number part) ∙ ap (λ (k : ℕ). part_slots material sides k part) e
slots-more material sides number (p ∷ parts) part =
    let e : (number + 1) + length parts ≡ number + suc (length parts) = omega arith in
    ap (λ (z : List Slot). part_slots material sides number p ++ z)
    (slots-more material sides (number + 1) parts part ∙ ap (λ (k : ℕ). slots_from material sides (number + 1) parts ++ part_slots material sides k part) e)
    ∙ sym (append_assoc (part_slots material sides number p) (slots_from material sides (number + 1) parts) (part_slots material sides (number + suc (length parts)) part))

not_true : (let f : Bool = false in f ≡ true) → ⊥
not_true e = cc e

not_both : {G F : Type 0} (x : G) (f : F) → (let read : Result G F = Ok x in read ≡ Err f) → ⊥
not_both x f e = cc e

inside : {G F : Type 0} → G → Result G F → G
inside other (Ok x) = x
inside other (Err e) = other

-- the groups of an accepted order are those returned
pub stated_groups : {G F : Type 0} (fault : Option F) (groups stated : G) →
    (IsNone fault → (let read : Result G F = Ok groups in read ≡ Ok stated)) → IfSome fault (λ f. let read : Result G F = Ok groups in read ≡ Err f) → groups ≡ stated
unfolding inside
stated_groups None groups stated h r = ap (inside groups) (h refl)
stated_groups (Some f) groups stated h r = absurd (not_both groups f r)

-- ---- consecutive numbers

pub numbers-more : (n : ℕ) → range_with_len 0 (n + 1) ≡ range_with_len 0 n ++ n ∷ []
numbers-more n =
    sym (map-id (range_with_len 0 (n + 1))) ∙ map-range_with_len_more (λ x. x) 0 n n (omega arith) ∙ ap (λ (z : List ℕ). z ++ n ∷ []) (map-id (range_with_len 0 n))

-- the numbers before one, that one, and those after it
pub numbers-split : (a n rest : ℕ) → range_with_len a (n + suc rest) ≡ range_with_len a n ++ (a + n) ∷ range_with_len (a + n + 1) rest
numbers-split a zero rest =
    let none : 0 + suc rest ≡ suc rest = omega arith in
    let here : a ≡ a + 0 = omega arith in
    ap (range_with_len a) none ∙ ap (λ (k : ℕ). k ∷ range_with_len (k + 1) rest) here
numbers-split a (suc n) rest =
    let more : suc n + suc rest ≡ suc (n + suc rest) = omega arith in
    let there : (a + 1) + n ≡ a + suc n = omega arith in
    ap (range_with_len a) more
    ∙ ap (λ (z : List ℕ). a ∷ z) (numbers-split (a + 1) n rest)
    ∙ ap (λ (k : ℕ). a ∷ (range_with_len (a + 1) n ++ k ∷ range_with_len (k + 1) rest)) there

-- ---- a part has at most two subtables

pub few_either : (b : Bool) (xs ys : List ℕ) (most : ℕ) → length xs ≤ most → length ys ≤ most → length (cond b xs ys) ≤ most
few_either true xs ys most p q = p
few_either false xs ys most p q = q

pub few_sides : (sides : Sides) (kind : Kind) → length (side_numbers sides kind) ≤ 2
few_sides sides Wdl = few_either (is_symmetric sides) (0 ∷ []) (0 ∷ 1 ∷ []) 2 (omega arith) (omega arith)
few_sides sides Dtz = omega arith

abbrev pub slot_of : Sides → ℕ → ℕ → Part → Slot
slot_of material number side part = record { part = number; side = side; size = size_of material number (order_of side part) }

pub slots_few : (material : Sides) (kind : Kind) (number : ℕ) (part : Part) → length (part_slots material (side_numbers material kind) number part) ≤ 2
slots_few material kind number part = omega (arith, few_sides material kind, length-map (side_numbers material kind) (λ side. slot_of material number side part))
