-- Where one part and side are wanted, the values are those of its subtable: no two slots have the same part and side.
use Rattle.std.proofs.Common.{◌≡◌, ℕ, ◌+◌, ◌*◌, ◌<◌, ◌≤◌, Bool, true, false, nat_eq, ◌&&◌, cond, List, [], ◌∷◌, ◌++◌, refl, ap, ◌∙◌, append-nil, arith, Some}
use Rattle.std.specs.Prelude.{IfSome}
use Rattle.std.proofs.lemmas.Bool.{eqb-true}
use Rattle.szg_values.specs.declared.Kind.{Kind}
use Rattle.szg_values.specs.declared.Kind.TheVariants.{Wdl, Dtz}
use Rattle.szg_values.specs.Material.{Sides, is_symmetric}
use Rattle.szg_file.specs.Contents.{Part, Slot, Subtable, slots, slots_from}
use Rattle.szg_file.specs.Streaming.{OnlyOneIsWanted, only, values_if, wanted_values}
use Rattle.szg_file.specs.Values.{found, slotted, values_of}

-- a number that grows from slot to slot
abbrev key : Slot → ℕ
key slot = 2 * slot.part + slot.side

-- from `least` on, each slot has a greater number than the one before it
abbrev Grows : ℕ → List (Slot × Subtable) → Type 0
Grows least [] = Unit {0}
Grows least (pair ∷ others) = (least ≤ key pair.0) × Grows (key pair.0 + 1) others

grows_from : (less least : ℕ) (pairs : List (Slot × Subtable)) → less ≤ least → Grows least pairs → Grows less pairs
grows_from less least [] h g = tt
grows_from less least (pair ∷ others) h g = (omega (arith, h, g.0), g.1)

grows_one : (material : Sides) (n : ℕ) (parts : List Part) (subs : List Subtable) → Grows (2 * n) (slotted (slots_from material (0 ∷ []) n parts) subs)
grows_one material n [] subs = tt
grows_one material n (part ∷ parts) [] = tt
grows_one material n (part ∷ parts) (sub ∷ subs) =
    (omega arith, grows_from (2 * n + 0 + 1) (2 * (n + 1)) _ (omega arith) (grows_one material (n + 1) parts subs))

grows_two : (material : Sides) (n : ℕ) (parts : List Part) (subs : List Subtable) → Grows (2 * n) (slotted (slots_from material (0 ∷ 1 ∷ []) n parts) subs)
grows_two material n [] subs = tt
grows_two material n (part ∷ parts) [] = tt
grows_two material n (part ∷ parts) (sub ∷ []) = (omega arith, tt)
grows_two material n (part ∷ parts) (sub ∷ other ∷ subs) =
    (omega arith, (omega arith, grows_from (2 * n + 1 + 1) (2 * (n + 1)) _ (omega arith) (grows_two material (n + 1) parts subs)))

and_first : (x y : Bool) → (x && y) ≡ true → x ≡ true
and_first true y e = refl
and_first false y e = absurd cc

and_second : (x y : Bool) → (x && y) ≡ true → y ≡ true
and_second true y e = e
and_second false y e = absurd cc

both_equal : (a b c d : ℕ) → (nat_eq a b && nat_eq c d) ≡ true → (a ≡ b) × (c ≡ d)
both_equal a b c d e = (eqb-true a b (and_first (nat_eq a b) (nat_eq c d) e), eqb-true c d (and_second (nat_eq a b) (nat_eq c d) e))

-- beyond its number nothing is wanted
not_here : (kind : Kind) (part side least : ℕ) (pair : Slot × Subtable) (others : List (Slot × Subtable)) → Grows least (pair ∷ others) → 2 * part + side < least →
    wanted_values (only part side) kind others ≡ [] → (b : Bool) → only part side pair.0.part pair.0.side ≡ b → wanted_values (only part side) kind (pair ∷ others) ≡ []
not_here kind part side least pair others g past rest true e =
    let same = both_equal pair.0.part part pair.0.side side e in
    absurd (omega (arith, past, g.0, same.0, same.1))
not_here kind part side least pair others g past rest false e =
    ap (λ (b : Bool). values_if b (values_of kind pair) ++ wanted_values (only part side) kind others) e ∙ rest

none_wanted : (kind : Kind) (part side least : ℕ) (pairs : List (Slot × Subtable)) → Grows least pairs → 2 * part + side < least → wanted_values (only part side) kind pairs ≡ []
none_wanted kind part side least [] g past = refl
none_wanted kind part side least (pair ∷ others) g past =
    not_here kind part side least pair others g past (none_wanted kind part side (key pair.0 + 1) others g.1 (omega (arith, past, g.0))) (only part side pair.0.part pair.0.side) refl

-- the one that is found
one_here : (kind : Kind) (part side least : ℕ) (pair : Slot × Subtable) (others : List (Slot × Subtable)) → Grows least (pair ∷ others) →
    IfSome (found part side others) (λ f. wanted_values (only part side) kind others ≡ values_of kind f) → (b : Bool) → only part side pair.0.part pair.0.side ≡ b →
    IfSome (cond b (Some pair) (found part side others)) (λ f. values_if b (values_of kind pair) ++ wanted_values (only part side) kind others ≡ values_of kind f)
one_here kind part side least pair others g rest true e =
    let same = both_equal pair.0.part part pair.0.side side e in
    ap (λ (z : List ℕ). values_of kind pair ++ z) (none_wanted kind part side (key pair.0 + 1) others g.1 (omega (arith, same.0, same.1))) ∙ append-nil (values_of kind pair)
one_here kind part side least pair others g rest false e = rest

one_wanted : (kind : Kind) (part side least : ℕ) (pairs : List (Slot × Subtable)) → Grows least pairs → IfSome (found part side pairs) (λ f. wanted_values (only part side) kind pairs ≡ values_of kind f)
one_wanted kind part side least [] g = tt
one_wanted kind part side least (pair ∷ others) g =
    one_here kind part side least pair others g (one_wanted kind part side (key pair.0 + 1) others g.1) (only part side pair.0.part pair.0.side) refl

-- every table's slots
grows_sides : (material : Sides) (b : Bool) (parts : List Part) (subs : List Subtable) → Grows 0 (slotted (slots_from material (cond b (0 ∷ []) (0 ∷ 1 ∷ [])) 0 parts) subs)
grows_sides material true parts subs = grows_one material 0 parts subs
grows_sides material false parts subs = grows_two material 0 parts subs

grows_slots : (material : Sides) (kind : Kind) (parts : List Part) (subs : List Subtable) → Grows 0 (slotted (slots material kind parts) subs)
grows_slots material Wdl parts subs = grows_sides material (is_symmetric material) parts subs
grows_slots material Dtz parts subs = grows_one material 0 parts subs

pub only_one : OnlyOneIsWanted
only_one t part side = one_wanted t.kind part side 0 (slotted (slots t.material t.kind t.parts) t.subtables) (grows_slots t.material t.kind t.parts t.subtables)
