-- Lists without duplicates, and their elements that pass a test.
use Rattle.std.proofs.Common.{◌≡◌, ℕ, zero, suc, ◌+◌, ◌<◌, ◌≤◌, inl, inr, List, [], ◌∷◌, length, map, refl, sym, ap, ◌∙◌, subst, Bool, true, false, cond, arith}
use Rattle.std.specs.Prelude.{filter, ◌==◌}
use Rattle.std.specs.List.{list_all, range_with_len}
use Rattle.std.proofs.Math.Bool.{not, ◌||◌}
use Rattle.std.proofs.lemmas.Bool.{cases_Bool, cases_eq, eqb-true, eq-eqb, and_parts, false_from_ne_true}
use Rattle.szg_count.specs.Sets.{sets_of}
use Rattle.szg_count.specs.Leads.{contains, after}
use Rattle.szg_count.specs.Laws.{IsIn, AllDiffer}
use Rattle.szg_count.proofs.Differ.{IsIn-append, IsIn-prefix, IsIn-sets_of, IsIn-prefix_back, IsIn-append_left, IsIn-append_right}
use Rattle.szg_count.proofs.Free.{contains-IsIn}
use Rattle.szg_count.specs.Leads.{lists_by}

pub not_true : (b : Bool) → not b ≡ true → b ≡ true → ⊥
not_true true e f = cc
not_true false e f = cc

-- two tests are equal if each passes when the other does
pub same_tests : (a b : Bool) → (a ≡ true → b ≡ true) → (b ≡ true → a ≡ true) → a ≡ b
same_tests true b f g = sym (f refl)
same_tests false true f g = g refl
same_tests false false f g = refl

pub all-IsIn : {A : Type 0} (test : A → Bool) (xs : List A) (x : A) → list_all test xs ≡ true → IsIn x xs → test x ≡ true
all-IsIn test [] x e h = absurd h
all-IsIn test (y ∷ ys) x e (inl f) = ap test f ∙ (and_parts (test y) (list_all test ys) e).0
all-IsIn test (y ∷ ys) x e (inr h) = all-IsIn test ys x (and_parts (test y) (list_all test ys) e).1 h

range-has : (a n x : ℕ) → a ≤ x → x < a + n → IsIn x (range_with_len a n)
range-has a zero x h k = absurd (omega arith)
range-has a (suc n) x h k = elim (cases_eq x a) [
  | inl e ↦ inl e
  | inr m ↦ inr (range-has (a + 1) n x (omega (arith, m)) (omega arith))
]

-- if `list_all` says that all numbers below n pass a test, each of them passes it
pub tested : (test : ℕ → Bool) (n x : ℕ) → list_all test (range_with_len 0 n) ≡ true → x < n → test x ≡ true
tested test n x e h = all-IsIn test (range_with_len 0 n) x e (range-has 0 n x (omega arith) (omega arith))

pub IsIn-map_back : {A B : Type 0} (f : A → B) (xs : List A) (x : A) → IsIn x xs → IsIn (f x) (map f xs)
IsIn-map_back f [] x h = absurd h
IsIn-map_back f (y ∷ ys) x (inl e) = inl (ap f e)
IsIn-map_back f (y ∷ ys) x (inr h) = inr (IsIn-map_back f ys x h)

pub IsIn-filter_back : (test : ℕ → Bool) (xs : List ℕ) (x : ℕ) → IsIn x xs → test x ≡ true → IsIn x (filter test xs)
IsIn-filter_back test [] x h e = absurd h
IsIn-filter_back test (y ∷ ys) x (inl f) e = let k : test y ≡ true = ap test (sym f) ∙ e in rw k (inl f)
IsIn-filter_back test (y ∷ ys) x (inr h) e = more (test y) (IsIn-filter_back test ys x h e) where
  more : (b : Bool) → IsIn x (filter test ys) → IsIn x (cond b (y ∷ filter test ys) (filter test ys))
  more true i = inr i
  more false i = i

pub filter-same : (f g : ℕ → Bool) (xs : List ℕ) → ((x : ℕ) → IsIn x xs → f x ≡ g x) → filter f xs ≡ filter g xs
filter-same f g [] h = refl
filter-same f g (x ∷ xs) h =
    let more = filter-same f g xs (λ y i. h y (inr i)) in
    ap (λ b. cond b (x ∷ filter f xs) (filter f xs)) (h x (inl refl)) ∙ ap (λ l. cond (g x) (x ∷ l) l) more

pub filter-none : (f : ℕ → Bool) (xs : List ℕ) → ((x : ℕ) → IsIn x xs → f x ≡ false) → filter f xs ≡ []
filter-none f [] h = refl
filter-none f (x ∷ xs) h = rw (h x (inl refl)) (filter-none f xs (λ y i. h y (inr i)))

-- if f implies g, filtering by g and then by f is filtering by f
pub filter-inside : (f g : ℕ → Bool) (xs : List ℕ) → ((x : ℕ) → IsIn x xs → f x ≡ true → g x ≡ true) → filter f (filter g xs) ≡ filter f xs
filter-inside f g [] h = refl
filter-inside f g (x ∷ xs) h = elim (cases_Bool (g x)) [
  | inl t ↦ rw t (ap (λ l. cond (f x) (x ∷ l) l) (filter-inside f g xs (λ y i. h y (inr i))))
  | inr n ↦ let k : f x ≡ false = false_from_ne_true (f x) (λ e. clash (g x) (h x (inl refl) e) n) in
      rw (n, k) (filter-inside f g xs (λ y i. h y (inr i)))
] where
  clash : (b : Bool) → b ≡ true → b ≡ false → ⊥
  clash true e f = cc
  clash false e f = cc

-- if a test also passes x, one more element passes
pub filter-one : (x : ℕ) (f : ℕ → Bool) (xs : List ℕ) → AllDiffer xs → IsIn x xs → f x ≡ false →
    length (filter (λ s. (x == s) || f s) xs) ≡ suc (length (filter f xs))
filter-one x f [] d h e = absurd h
filter-one x f (y ∷ ys) d (inl k) e =
    let a : (x == y) ≡ true = eq-eqb x y k in
    let b : f y ≡ false = ap f (sym k) ∙ e in
    rw (a, b) (ap (λ l. suc (length l)) (filter-same (λ s. (x == s) || f s) f ys
    (λ z i. ap (λ c. c || f z) (false_from_ne_true (x == z) (λ q. d.0 (subst (λ (n : ℕ). IsIn n ys) (sym (eqb-true x z q) ∙ k) i))))))
filter-one x f (y ∷ ys) d (inr k) e =
    let a : (x == y) ≡ false = false_from_ne_true (x == y) (λ q. d.0 (subst (λ (n : ℕ). IsIn n ys) (eqb-true x y q) k)) in
    rw a (kept (f y) (filter-one x f ys d.1 k e)) where
      kept : (b : Bool) → length (filter (λ s. (x == s) || f s) ys) ≡ suc (length (filter f ys)) →
          length (cond b (y ∷ filter (λ s. (x == s) || f s) ys) (filter (λ s. (x == s) || f s) ys)) ≡ suc (length (cond b (y ∷ filter f ys) (filter f ys)))
      kept true q = ap suc q
      kept false q = q

-- filtering a list by membership in one of its sets returns the set
pub filter-set : (r : ℕ) (xs set : List ℕ) → AllDiffer xs → IsIn set (sets_of r xs) → filter (contains set) xs ≡ set
unfolding sets_of
filter-set zero xs set d (inl e) = ap (λ (s : List ℕ). filter (contains s) xs) e ∙ filter-none (contains []) xs (λ x i. refl) ∙ sym e
filter-set zero xs set d (inr h) = absurd h
filter-set (suc r) [] set d h = absurd h
filter-set (suc r) (x ∷ xs) set d h = elim (IsIn-append set (sets_of (suc r) xs) (map (λ rest. x ∷ rest) (sets_of r xs)) h) [
  | inl l ↦ let n : contains set x ≡ false = false_from_ne_true (contains set x) (λ e. d.0 (IsIn-sets_of (suc r) xs set x l (contains-IsIn x set e))) in
      rw n (filter-set (suc r) xs set d.1 l)
  | inr f ↦ let p = IsIn-prefix x (sets_of r xs) set f in
      ap (λ (s : List ℕ). filter (contains s) (x ∷ xs)) p.1 ∙ front p.0 (filter-set r xs p.0 d.1 p.2) ∙ sym p.1
] where
  front : (rest : List ℕ) → filter (contains rest) xs ≡ rest → filter (contains (x ∷ rest)) (x ∷ xs) ≡ x ∷ rest
  front rest again = rw (eq-eqb x x refl) (ap (λ l. x ∷ l) (filter-same (contains (x ∷ rest)) (contains rest) xs
      (λ y j. ap (λ b. b || contains rest y) (false_from_ne_true (y == x) (λ e. d.0 (subst (λ (z : ℕ). IsIn z xs) (eqb-true y x e) j))))
      ∙ again))

-- the elements of a set of a list are all different
pub AllDiffer-set : (r : ℕ) (xs set : List ℕ) → AllDiffer xs → IsIn set (sets_of r xs) → AllDiffer set
unfolding sets_of
AllDiffer-set zero xs set d (inl e) = subst (λ (l : List ℕ). AllDiffer l) (sym e) tt
AllDiffer-set zero xs set d (inr h) = absurd h
AllDiffer-set (suc r) [] set d h = absurd h
AllDiffer-set (suc r) (x ∷ xs) set d h = elim (IsIn-append set (sets_of (suc r) xs) (map (λ rest. x ∷ rest) (sets_of r xs)) h) [
  | inl l ↦ AllDiffer-set (suc r) xs set d.1 l
  | inr f ↦ let p = IsIn-prefix x (sets_of r xs) set f in
      subst (λ (l : List ℕ). AllDiffer l) (sym p.1) (λ k. d.0 (IsIn-sets_of r xs p.0 x p.2 k), AllDiffer-set r xs p.0 d.1 p.2)
]

-- lists_by contains each x with each of its rests
pub IsIn-lists_by_back : (xs : List ℕ) (rests : ℕ → List (List ℕ)) (x : ℕ) (rest : List ℕ) → IsIn x xs → IsIn rest (rests x) → IsIn (x ∷ rest) (lists_by xs rests)
unfolding lists_by
IsIn-lists_by_back [] rests x rest h i = absurd h
IsIn-lists_by_back (y ∷ ys) rests x rest (inl e) i =
    IsIn-append_left (x ∷ rest) (map (λ rest. y ∷ rest) (rests y)) (lists_by ys rests)
    (subst (λ (z : ℕ). IsIn (z ∷ rest) (map (λ rest. y ∷ rest) (rests y))) (sym e)
    (IsIn-prefix_back y (rests y) rest (subst (λ (z : ℕ). IsIn rest (rests z)) e i)))
IsIn-lists_by_back (y ∷ ys) rests x rest (inr h) i =
    IsIn-append_right (x ∷ rest) (map (λ rest. y ∷ rest) (rests y)) (lists_by ys rests) (IsIn-lists_by_back ys rests x rest h i)

-- after the first element that passes a test come those that pass it later in the list
pub filter-after : (f : ℕ → Bool) (xs : List ℕ) (q : ℕ) (rest : List ℕ) → filter f xs ≡ q ∷ rest → (rest ≡ filter f (after q xs)) × IsIn q xs × (f q ≡ true)
unfolding after
filter-after f [] q rest e = cc
filter-after f (x ∷ xs) q rest e = elim (cases_Bool (f x)) [
  | inl t ↦ let g : x ∷ filter f xs ≡ q ∷ rest = rw t at e in
      let h : q ≡ x = cc in let k : rest ≡ filter f xs = cc in
      (rw (eq-eqb q x h) k, inl h, ap f h ∙ t)
  | inr n ↦ let g : filter f xs ≡ q ∷ rest = rw n at e in
      let r = filter-after f xs q rest g in
      let m : (q == x) ≡ false = false_from_ne_true (q == x) (λ h. clash (f x) (ap f (sym (eqb-true q x h)) ∙ r.2) n) in
      (rw m r.0, inr r.1, r.2)
] where
  clash : (b : Bool) → b ≡ true → b ≡ false → ⊥
  clash true e f = cc
  clash false e f = cc
