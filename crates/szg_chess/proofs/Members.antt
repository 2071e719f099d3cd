-- Lists and their elements.
use Rattle.std.proofs.Common.{◌≡◌, ℕ, List, [], ◌∷◌, get_or, zero, suc, refl, sym, ap, ◌∙◌, Bool, true, false, arith, inl, inr, ◌⊎◌}
use Rattle.std.specs.Prelude.{filter, flat_map, map, not, ◌||◌, ◌==◌}
use Rattle.std.specs.List.{list_any, list_all, All, Contains}
use Rattle.std.proofs.lemmas.Bool.{cases_Bool, and_parts, or_parts, eq-eqb, both_ways, not-true}
use Rattle.std.proofs.lemmas.List.Elements.{All-head, All-tail, All-cons, All-nil, All-append, All-filter, All-contains, All-contains_itself, filter_passes}
use Rattle.std.proofs.lemmas.List.Folds.{list_any-from_Any, Any-from_list_any}
use Rattle.szg_values.specs.Placement.{PlacedMan, has_distinct_squares}

pub All-flat_map : {X A : Type 0} (f : X → List A) (P : A → Type 0) (xs : List X) → All (λ x. All P (f x)) xs → All P (flat_map f xs)
All-flat_map f P [] all = All-nil P
All-flat_map {X} f P (x ∷ xs) all =
    let Q : X → Type 0 = λ y. All P (f y) in
    All-append P (f x) (flat_map f xs) (All-head Q x xs all) (All-flat_map f P xs (All-tail Q x xs all))

-- the elements that pass a test are elements of the list
pub All-passing : {X : Type 0} (test : X → Bool) (xs : List X) → All (λ x. Contains xs x × (test x ≡ true)) (filter test xs)
All-passing {X} test xs =
    let held = All-filter test (Contains xs) xs (All-contains_itself xs) in
    λ k d h. (held k d h, filter_passes test xs k d h)

-- one element settles a test
pub any_of : {X : Type 0} (test : X → Bool) (xs : List X) (x : X) → Contains xs x → test x ≡ true → list_any test xs ≡ true
any_of test xs x held e = list_any-from_Any test xs (held.0, x, held.1, held.2, e)

pub some_of : {X : Type 0} (test : X → Bool) (xs : List X) → list_any test xs ≡ true → (x : X) × (Contains xs x × (test x ≡ true))
some_of test xs e = let found = Any-from_list_any test xs e in (found.1, ((found.0, found.2, found.3), found.4))

pub none_of : {X : Type 0} (test : X → Bool) (xs : List X) → list_any test xs ≡ false → All (λ x. test x ≡ false) xs
none_of {X} test [] e = All-nil (λ (x : X). test x ≡ false)
none_of {X} test (x ∷ xs) e = let parts = or_parts (test x) (list_any test xs) e in All-cons (λ (y : X). test y ≡ false) x xs parts.0 (none_of test xs parts.1)

-- if no man is on a square, all men are off it
pub all_off : (square : ℕ) (men : List PlacedMan) → list_any (λ s. s.2 == square) men ≡ false → filter (λ s. not (s.2 == square)) men ≡ men
all_off square [] e = refl
all_off square (s ∷ men) e =
    let parts = or_parts (s.2 == square) (list_any (λ u. u.2 == square) men) e in
    rw parts.0 (ap (λ (us : List PlacedMan). s ∷ us) (all_off square men parts.1))

pub all_of : {X : Type 0} (test : X → Bool) (xs : List X) → All (λ x. test x ≡ true) xs → list_all test xs ≡ true
all_of test [] all = refl
all_of {X} test (x ∷ xs) all = let P : X → Type 0 = λ y. test y ≡ true in rw (All-head P x xs all) (all_of test xs (All-tail P x xs all))

pub each_of : {X : Type 0} (test : X → Bool) (xs : List X) → list_all test xs ≡ true → All (λ x. test x ≡ true) xs
each_of {X} test [] e = All-nil (λ (x : X). test x ≡ true)
each_of {X} test (x ∷ xs) e = let parts = and_parts (test x) (list_all test xs) e in All-cons (λ (y : X). test y ≡ true) x xs parts.0 (each_of test xs parts.1)

pub any_map : {X Y : Type 0} (test : Y → Bool) (f : X → Y) (xs : List X) → list_any test (map f xs) ≡ list_any (λ x. test (f x)) xs
any_map test f [] = refl
any_map test f (x ∷ xs) = ap (λ (b : Bool). test (f x) || b) (any_map test f xs)

pub any_filter : {X : Type 0} (test kept : X → Bool) (xs : List X) (x : X) → Contains xs x → kept x ≡ true → test x ≡ true → list_any test (filter kept xs) ≡ true
any_filter {X} test kept xs x held k e = elim (cases_Bool (list_any test (filter kept xs))) [
  | inl t ↦ t
  | inr f ↦ absurd (both_ways (test x) (All-contains (λ (y : X). kept y ≡ true → test y ≡ false) xs x (unkept xs f) held k) e)
]
  where
    unkept : (ys : List X) → list_any test (filter kept ys) ≡ false → All (λ (y : X). kept y ≡ true → test y ≡ false) ys
    unkept [] e = All-nil (λ (y : X). kept y ≡ true → test y ≡ false)
    unkept (y ∷ ys) e = elim (cases_Bool (kept y)) [
      | inl t ↦ let parts = or_parts (test y) (list_any test (filter kept ys)) (rw t at e) in All-cons (λ (y : X). kept y ≡ true → test y ≡ false) y ys (λ _. parts.0) (unkept ys parts.1)
      | inr f ↦ All-cons (λ (y : X). kept y ≡ true → test y ≡ false) y ys (λ t. absurd (both_ways (kept y) f t)) (unkept ys (rw f at e))
    ]

pub contains_cons : {X : Type 0} (x : X) (xs : List X) (y : X) → Contains (x ∷ xs) y → (x ≡ y) ⊎ Contains xs y
contains_cons x xs y (zero, h, e) = inl e
contains_cons x xs y (suc k, h, e) = inr (k, omega arith, e)

-- a man is the only one on its square
pub only_man : (men : List PlacedMan) → has_distinct_squares men ≡ true → (s : PlacedMan) → Contains men s → All (λ (u : PlacedMan). u.2 ≡ s.2 → u ≡ s) men
only_man [] e s held = All-nil (λ (u : PlacedMan). u.2 ≡ s.2 → u ≡ s)
only_man (x ∷ xs) e s held =
    let parts = and_parts (not (list_any (λ t. x.2 == t.2) xs)) (has_distinct_squares xs) e in
    let none = none_of (λ (t : PlacedMan). x.2 == t.2) xs (not-true (list_any (λ t. x.2 == t.2) xs) parts.0) in
    let P : PlacedMan → Type 0 = λ u. u.2 ≡ s.2 → u ≡ s in
    elim (contains_cons x xs s held) [
      | inl same ↦ All-cons P x xs (λ _. same) (λ k d h here. absurd (both_ways (x.2 == (get_or xs k d).2) (none k d h) (eq-eqb x.2 (get_or xs k d).2 (ap (λ (t : PlacedMan). t.2) same ∙ sym here))))
      | inr more ↦ All-cons P x xs (λ here. absurd (both_ways (x.2 == s.2) (All-contains (λ (t : PlacedMan). (x.2 == t.2) ≡ false) xs s none more) (eq-eqb x.2 s.2 here))) (only_man xs parts.1 s more)
    ]

pub same_man : (men : List PlacedMan) → has_distinct_squares men ≡ true → (s : PlacedMan) → Contains men s → (u : PlacedMan) → Contains men u → u.2 ≡ s.2 → u ≡ s
same_man men apart s held u held_too = All-contains (λ (v : PlacedMan). v.2 ≡ s.2 → v ≡ s) men u (only_man men apart s held) held_too
