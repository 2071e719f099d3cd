-- Laws for the checks of assembled fields: parts that pass, and lists related item by item.
use Rattle.std.proofs.Common.{◌≡◌, ℕ, zero, suc, add-one, ◌+◌, ◌<◌, Bool, true, false, cond, List, [], ◌∷◌, ◌++◌, length, map, take, get_or, ◌/◌, ◌%◌, refl, sym, ap, subst, ◌∙◌, arith, Option, Some, None}
use Rattle.std.specs.Prelude.{IsTrue, slice_get}
use Rattle.std.specs.List.{AllByRecursion}
use Rattle.std.proofs.lemmas.List.{map-append}
use Rattle.std.proofs.lemmas.Option.{slice_get_within, get_or_from_slice_get}
use Rattle.std.proofs.Math.Seq.{take-suc}
use Rattle.szg_values.specs.declared.Kind.{Kind}
use Rattle.szg_values.specs.declared.Kind.TheVariants.{Wdl, Dtz}
use Rattle.szg_values.specs.Material.{Sides, is_symmetric}
use Rattle.szg_count.specs.Groups.{order_fault}
use Rattle.szg_count.specs.declared.OrderFault.{OrderFault}
use Rattle.szg_count.specs.declared.OrderFault.TheVariants.{Pieces, PawnsFirst, OrderPlace}
use Rattle.szg_block.specs.declared.Sub.{Sub}
use Rattle.szg_block.specs.declared.Sub.TheVariants.{Constant, Pairs}
use Rattle.szg_block.specs.declared.SubFault.{SubFault}
use Rattle.szg_block.specs.declared.SubFault.TheVariants.{ShortTotal, SparseEntry as BadEntry, Word}
use Rattle.szg_block.specs.Subtable.{layout_of, packed_of, IsShaped, IsSoundOver, IsFaultOf}
use Rattle.szg_file.specs.declared.fault.Reason.{Reason}
use Rattle.szg_file.specs.Contents.{Part, Slot, order_bytes, order_of, side_numbers}
use Rattle.szg_file.specs.Format.{Format, means, refuses, ◌>>=◌}
use Rattle.szg_file.specs.File.{each, order_check, part_checks}
use Rattle.szg_file.specs.Accepted.{SideBySide, IsSubtable}
use Rattle.szg_file.specs.Assembled.{IsTyped}
use Rattle.szg_file.specs.Held.{sparse_of, subtable_of}
use Rattle.szg_file.proofs.Tables.Standing.{sound_is_valid}

-- ---- the checks of a part's orders

abbrev checks : ℕ → ℕ → (ℕ → Option OrderFault) → List ℕ → Format (Unit {0})
checks place orders fault sides = each (λ side. order_check place orders (fault side)) sides >>= λ _. means tt

abbrev one_check : ℕ → ℕ → Option OrderFault → Format (Unit {0})
one_check place orders o = order_check place orders o >>= (λ y. means (y ∷ [])) >>= λ _. means tt

abbrev two_checks : ℕ → ℕ → Option OrderFault → Option OrderFault → Format (Unit {0})
two_checks place orders o o' = order_check place orders o >>= (λ y. order_check place orders o' >>= (λ z. means (z ∷ [])) >>= λ zs. means (y ∷ zs)) >>= λ _. means tt

one_is_valid : (place orders : ℕ) (o : Option OrderFault) → one_check place orders o ≡ means tt → o ≡ None
one_is_valid place orders None e = refl
one_is_valid place orders (Some Pieces) e = cc e
one_is_valid place orders (Some PawnsFirst) e = cc e
one_is_valid place orders (Some OrderPlace) e = cc e

two_are_valid : (place orders : ℕ) (o o' : Option OrderFault) → two_checks place orders o o' ≡ means tt → (o ≡ None) × (o' ≡ None)
two_are_valid place orders None None e = (refl, refl)
two_are_valid place orders None (Some Pieces) e = cc e
two_are_valid place orders None (Some PawnsFirst) e = cc e
two_are_valid place orders None (Some OrderPlace) e = cc e
two_are_valid place orders (Some Pieces) o' e = cc e
two_are_valid place orders (Some PawnsFirst) o' e = cc e
two_are_valid place orders (Some OrderPlace) o' e = cc e

one_passes : (place orders : ℕ) (o : Option OrderFault) → o ≡ None → one_check place orders o ≡ means tt
one_passes place orders None e = refl
one_passes place orders (Some f) e = absurd (cc e)

two_pass : (place orders : ℕ) (o o' : Option OrderFault) → o ≡ None → o' ≡ None → two_checks place orders o o' ≡ means tt
two_pass place orders None None e e' = refl
two_pass place orders None (Some f) e e' = absurd (cc e')
two_pass place orders (Some f) o' e e' = absurd (cc e)

valid_either : (b : Bool) (place orders : ℕ) (fault : ℕ → Option OrderFault) → checks place orders fault (cond b (0 ∷ []) (0 ∷ 1 ∷ [])) ≡ means tt →
    AllByRecursion (λ side. fault side ≡ None) (cond b (0 ∷ []) (0 ∷ 1 ∷ []))
valid_either true place orders fault e = (one_is_valid place orders (fault 0) e, tt)
valid_either false place orders fault e = let both = two_are_valid place orders (fault 0) (fault 1) e in (both.0, (both.1, tt))

pass_either : (b : Bool) (place orders : ℕ) (fault : ℕ → Option OrderFault) → AllByRecursion (λ side. fault side ≡ None) (cond b (0 ∷ []) (0 ∷ 1 ∷ [])) →
    checks place orders fault (cond b (0 ∷ []) (0 ∷ 1 ∷ [])) ≡ means tt
pass_either true place orders fault h = one_passes place orders (fault 0) h.0
pass_either false place orders fault h = two_pass place orders (fault 0) (fault 1) h.0 h.1.0

-- if the checks of a part pass, the order of each side has no fault
pub orders_are_valid : (material : Sides) (kind : Kind) (place : ℕ) (part : Part) → part_checks material kind place part ≡ means tt →
    AllByRecursion (λ side. order_fault material (order_of side part) ≡ None) (side_numbers material kind)
orders_are_valid material Wdl place part e = valid_either (is_symmetric material) place (order_bytes material) (λ side. order_fault material (order_of side part)) e
orders_are_valid material Dtz place part e = valid_either true place (order_bytes material) (λ side. order_fault material (order_of side part)) e

orders_pass : (material : Sides) (kind : Kind) (place : ℕ) (part : Part) → AllByRecursion (λ side. order_fault material (order_of side part) ≡ None) (side_numbers material kind) →
    part_checks material kind place part ≡ means tt
orders_pass material Wdl place part h = pass_either (is_symmetric material) place (order_bytes material) (λ side. order_fault material (order_of side part)) h
orders_pass material Dtz place part h = pass_either true place (order_bytes material) (λ side. order_fault material (order_of side part)) h

passes_or_refuses : (place : ℕ) (reason : Reason) → (let passes : Format (Unit {0}) = means tt in passes ≡ refuses place reason) → ⊥
passes_or_refuses place reason e = cc e

-- if the checks refuse, the order of some side has a fault
pub orders_fail : (material : Sides) (kind : Kind) (place at : ℕ) (reason : Reason) (part : Part) → part_checks material kind place part ≡ refuses at reason →
    AllByRecursion (λ side. order_fault material (order_of side part) ≡ None) (side_numbers material kind) → ⊥
orders_fail material kind place at reason part e h = passes_or_refuses at reason (sym (orders_pass material kind place part h) ∙ e)

-- ---- lists

pub sides_of_all : {A B : Type 0} (P : B → Type 0) (xs : List A) (ys : List B) → length xs ≡ length ys → AllByRecursion P ys → SideBySide (λ _. P) xs ys
sides_of_all P [] [] e h = tt
sides_of_all P [] (y ∷ ys) e h = absurd (omega (arith, e))
sides_of_all P (x ∷ xs) [] e h = absurd (omega (arith, e))
sides_of_all P (x ∷ xs) (y ∷ ys) e h = (h.0, sides_of_all P xs ys (omega (arith, e)) h.1)

pub all_of_sides : {A B : Type 0} (P : B → Type 0) (xs : List A) (ys : List B) → SideBySide (λ _. P) xs ys → AllByRecursion P ys
all_of_sides P [] [] h = tt
all_of_sides P [] (y ∷ ys) h = absurd h
all_of_sides P (x ∷ xs) [] h = absurd h
all_of_sides P (x ∷ xs) (y ∷ ys) h = (h.0, all_of_sides P xs ys h.1)

all-append : {A : Type 0} (P : A → Type 0) (xs ys : List A) → AllByRecursion P xs → AllByRecursion P ys → AllByRecursion P (xs ++ ys)
all-append P [] ys h k = k
all-append P (x ∷ xs) ys h k = (h.0, all-append P xs ys h.1 k)

-- the items up to an index, and one more
map_more : {A B : Type 0} (view : A → B) (xs : List A) (at : ℕ) (d : A) → at < length xs → map view (take (at + 1) xs) ≡ map view (take at xs) ++ view (get_or xs at d) ∷ []
map_more view xs at d lt =
    ap (λ (m : ℕ). map view (take m xs)) (add-one at) ∙ ap (map view) (take-suc xs at d lt) ∙ map-append view (take at xs) (get_or xs at d ∷ [])

pub map_next : {A B : Type 0} (view : A → B) (xs : List A) (at : ℕ) (x : A) → at < length xs → x ≡ get_or xs at x →
    map view (take (at + 1) xs) ≡ map view (take at xs) ++ view x ∷ []
map_next view xs at x lt is = map_more view xs at x lt ∙ ap (λ z. map view (take at xs) ++ view z ∷ []) (sym is)

pub all_more : {A B : Type 0} (P : B → Type 0) (view : A → B) (xs : List A) (at : ℕ) (d : A) → at < length xs →
    AllByRecursion P (map view (take at xs)) → P (view (get_or xs at d)) → AllByRecursion P (map view (take (at + 1) xs))
all_more P view xs at d lt before here =
    subst (λ z. AllByRecursion P z) (sym (map_more view xs at d lt)) (all-append P (map view (take at xs)) (view (get_or xs at d) ∷ []) before (here, tt))

pub all_next : {A B : Type 0} (P : B → Type 0) (view : A → B) (xs : List A) (at : ℕ) (x : A) → at < length xs → x ≡ get_or xs at x →
    AllByRecursion P (map view (take at xs)) → P (view x) → AllByRecursion P (map view (take (at + 1) xs))
all_next P view xs at x lt is before here =
    subst (λ z. AllByRecursion P z) (sym (map_next view xs at x lt is)) (all-append P (map view (take at xs)) (view x ∷ []) before (here, tt))

-- an item of a list whose items satisfy `P` satisfies it
pub all_at : {A B : Type 0} (P : B → Type 0) (view : A → B) (xs : List A) (at : ℕ) (x : A) → at < length xs → x ≡ get_or xs at x →
    AllByRecursion P (map view xs) → P (view x)
all_at P view [] at x lt is h = absurd (omega (arith, lt))
all_at P view (y ∷ ys) zero x lt is h = subst (λ z. P (view z)) (sym is) h.0
all_at P view (y ∷ ys) (suc at) x lt is h = all_at P view ys at x (omega (arith, lt)) is h.1

-- ---- two lists related item by item

pub side-append : {A B : Type 0} (P : A → B → Type 0) (xs : List A) (ys : List B) (x : A) (y : B) → SideBySide P xs ys → P x y → SideBySide P (xs ++ x ∷ []) (ys ++ y ∷ [])
side-append P [] [] x y h here = (here, tt)
side-append P [] (b ∷ ys) x y h here = absurd h
side-append P (a ∷ xs) [] x y h here = absurd h
side-append P (a ∷ xs) (b ∷ ys) x y h here = (h.0, side-append P xs ys x y h.1 here)

pub side_next : {A B : Type 0} (P : A → B → Type 0) (xs : List A) (ys : List B) (at : ℕ) (x : A) (y : B) → at < length xs → at < length ys → x ≡ get_or xs at x → y ≡ get_or ys at y →
    SideBySide P (take at xs) (take at ys) → P x y → SideBySide P (take (at + 1) xs) (take (at + 1) ys)
side_next P xs ys at x y lt lt' is is' before here =
    let longer : take (at + 1) xs ≡ take at xs ++ x ∷ [] = ap (λ (m : ℕ). take m xs) (add-one at) ∙ take-suc xs at x lt ∙ ap (λ z. take at xs ++ z ∷ []) (sym is) in
    let longer' : take (at + 1) ys ≡ take at ys ++ y ∷ [] = ap (λ (m : ℕ). take m ys) (add-one at) ∙ take-suc ys at y lt' ∙ ap (λ z. take at ys ++ z ∷ []) (sym is') in
    subst (λ z. SideBySide P z (take (at + 1) ys)) (sym longer)
    (subst (λ z. SideBySide P (take at xs ++ x ∷ []) z) (sym longer') (side-append P (take at xs) (take at ys) x y before here))

pub side_here : {A B : Type 0} (P : A → B → Type 0) (xs : List A) (ys : List B) (at : ℕ) (x : A) (y : B) → at < length xs → at < length ys → x ≡ get_or xs at x → y ≡ get_or ys at y →
    SideBySide P xs ys → P x y
side_here P [] ys at x y lt lt' is is' h = absurd (omega (arith, lt))
side_here P (a ∷ xs) [] at x y lt lt' is is' h = absurd h
side_here P (a ∷ xs) (b ∷ ys) zero x y lt lt' is is' h = subst (λ z. P z y) (sym is) (subst (λ z. P a z) (sym is') h.0)
side_here P (a ∷ xs) (b ∷ ys) (suc at) x y lt lt' is is' h = side_here P xs ys at x y (omega (arith, lt)) (omega (arith, lt')) is is' h.1

-- likewise of the views of the items
pub side_shown : {A B C D : Type 0} (P : C → D → Type 0) (v : A → C) (w : B → D) (xs : List A) (ys : List B) → SideBySide (λ x y. P (v x) (w y)) xs ys → SideBySide P (map v xs) (map w ys)
side_shown P v w [] [] h = tt
side_shown P v w [] (y ∷ ys) h = absurd h
side_shown P v w (x ∷ xs) [] h = absurd h
side_shown P v w (x ∷ xs) (y ∷ ys) h = (h.0, side_shown P v w xs ys h.1)

pub side_held : {A B C D : Type 0} (P : C → D → Type 0) (v : A → C) (w : B → D) (xs : List A) (ys : List B) → SideBySide P (map v xs) (map w ys) → SideBySide (λ x y. P (v x) (w y)) xs ys
side_held P v w [] [] h = tt
side_held P v w [] (y ∷ ys) h = absurd h
side_held P v w (x ∷ xs) [] h = absurd h
side_held P v w (x ∷ xs) (y ∷ ys) h = (h.0, side_held P v w xs ys h.1)

pub side_shown_right : {A B D : Type 0} (P : A → D → Type 0) (w : B → D) (xs : List A) (ys : List B) → SideBySide (λ x y. P x (w y)) xs ys → SideBySide P xs (map w ys)
side_shown_right P w [] [] h = tt
side_shown_right P w [] (y ∷ ys) h = absurd h
side_shown_right P w (x ∷ xs) [] h = absurd h
side_shown_right P w (x ∷ xs) (y ∷ ys) h = (h.0, side_shown_right P w xs ys h.1)

pub side_held_right : {A B D : Type 0} (P : A → D → Type 0) (w : B → D) (xs : List A) (ys : List B) → SideBySide P xs (map w ys) → SideBySide (λ x y. P x (w y)) xs ys
side_held_right P w [] [] h = tt
side_held_right P w [] (y ∷ ys) h = absurd h
side_held_right P w (x ∷ xs) [] h = absurd h
side_held_right P w (x ∷ xs) (y ∷ ys) h = (h.0, side_held_right P w xs ys h.1)

-- ---- subtables

-- a shaped and sound subtable passes the checks of a slot
pub sub_standing : (slot : Slot) (sub : Sub) → IsTyped (subtable_of sub) → IsShaped sub slot.size → IsSoundOver sub (packed_of sub) slot.size → IsSubtable slot (subtable_of sub)
sub_standing slot (Constant flags byte) typed shape sound =
    let bit : flags / 128 % 2 ≡ 1 = shape.0.0 in
    let small : flags < 256 = typed.0 in
    let byte_small : byte < 256 = typed.1 in
    (omega (arith, bit, small), small, byte_small)
sub_standing slot (Pairs flags block_bits span_bits extra blocks code dict sparse lengths packed) typed shape sound =
    let bit : flags / 128 % 2 ≡ 0 = shape.0.0 in
    let small : flags < 256 = typed.flags in
    sound_is_valid slot.size _ (map sparse_of sparse.items) lengths.items packed.items
    (record {
      flags = omega (arith, bit, small);
      extra = typed.extra;
      blocks = typed.blocks;
      lowest = typed.lowest;
      symbols = typed.symbols;
      entries = typed.entries;
      sparse_fit = typed.sparse_fit;
      lengths_fit = typed.lengths_fit;
      packed_fit = typed.packed_fit;
    })
    typed.code typed.dictionary shape.0.1 shape.1 sound

-- a subtable with a fault is not sound
pub fault_excludes : (sub : Sub) (size : ℕ) (fault : SubFault) → IsFaultOf (layout_of sub) (packed_of sub) size fault → IsSoundOver sub (packed_of sub) size → ⊥
fault_excludes (Constant flags byte) size fault h sound = h
fault_excludes (Pairs flags block_bits span_bits extra blocks code dict sparse lengths packed) size ShortTotal h sound = h sound.total
fault_excludes (Pairs flags block_bits span_bits extra blocks code dict sparse lengths packed) size (BadEntry k) h sound = h.1.here (sound.entries k)
fault_excludes (Pairs flags block_bits span_bits extra blocks code dict sparse lengths packed) size (Word n) h sound = h.2.here (sound.words n)

-- a list that is read by index, and one more item of it
pub take_more_get : {A : Type 0} (xs : List A) (at : ℕ) (x : A) → slice_get xs at ≡ Some x → take (at + 1) xs ≡ take at xs ++ x ∷ []
take_more_get xs at x there =
    ap (λ (m : ℕ). take m xs) (add-one at) ∙ take-suc xs at x (slice_get_within xs at x there)
    ∙ ap (λ z. take at xs ++ z ∷ []) (get_or_from_slice_get xs at x x there)

pub all_get : {A : Type 0} (P : A → Type 0) (xs : List A) (at : ℕ) (x : A) → slice_get xs at ≡ Some x → AllByRecursion P (take at xs) → P x → AllByRecursion P (take (at + 1) xs)
all_get P xs at x there before here =
    subst (λ z. AllByRecursion P z) (sym (take_more_get xs at x there)) (all-append P (take at xs) (x ∷ []) before (here, tt))

pub never : {P : Type 0} → IsTrue false → P
never h = absurd cc
