-- Runs by their first men, and the lengths of groups.
use Rattle.std.proofs.Common.{◌≡◌, ℕ, zero, suc, ◌+◌, ◌<◌, ◌≤◌, List, [], ◌∷◌, ◌++◌, length, map, take, drop, refl, sym, ap, ◌∙◌, inl, inr, ◌⊎◌, Bool, true, false, cond, arith, length-take, length-drop, length-append, append_assoc}
use Rattle.std.specs.Prelude.{◌==◌, nat_lt, sum, slice_get, Some, None}
use Rattle.std.specs.List.{concat}
use Rattle.std.proofs.Math.Bool.{◌&&◌}
use Rattle.std.proofs.lemmas.List.Sums.{sum_by-cons, sum_by-append}
use Rattle.std.proofs.lemmas.List.{append-nil, length-map}
use Rattle.std.proofs.lemmas.Bool.{eqb-true, eq-eqb, lt-ltb}
use Rattle.szg_count.specs.Groups.{runs_of, prepend_man}
use Rattle.szg_count.specs.Steps.{leading, run_lengths, lengths_of}
use Rattle.szg_count.proofs.Sizes.{length-runs}

-- the runs of a list that is not empty: a first one that begins with its first man
record HasFirst (man : ℕ) (runs : List (List ℕ)) : Type 0 where
  run : List ℕ
  rest : List (List ℕ)
  is : runs ≡ (man ∷ run) ∷ rest

first_of : (man : ℕ) (runs : List (List ℕ)) → HasFirst man (prepend_man man runs)
first_of man [] = record { run = []; rest = []; is = refl }
first_of man ([] ∷ runs) = record { run = []; rest = runs; is = refl }
first_of man ((y ∷ run) ∷ runs) = elim (man == y) as (λ b. HasFirst man (cond b ((man ∷ y ∷ run) ∷ runs) ((man ∷ []) ∷ (y ∷ run) ∷ runs))) [
  | true ↦ record { run = y ∷ run; rest = runs; is = refl }
  | false ↦ record { run = []; rest = (y ∷ run) ∷ runs; is = refl }
]

abbrev lengths : List (List ℕ) → List ℕ
lengths runs = map (λ run. length run) runs

same_head : (a b : ℕ) (xs ys : List ℕ) → a ∷ xs ≡ b ∷ ys → a ≡ b
same_head a b xs ys e = cc

same_tail : (a b : ℕ) (xs ys : List ℕ) → a ∷ xs ≡ b ∷ ys → xs ≡ ys
same_tail a b xs ys e = cc

-- one more man before a first run
joined : (x y n : ℕ) (runs : List (List ℕ)) (others : List ℕ) → HasFirst y runs → lengths runs ≡ n ∷ others →
    lengths (prepend_man x runs) ≡ cond (x == y) (suc n ∷ others) (1 ∷ n ∷ others)
joined x y n runs others f e = rw f.is (split (x == y)) where
  known : lengths ((y ∷ f.run) ∷ f.rest) ≡ n ∷ others
  known = ap lengths (sym f.is) ∙ e

  split : (b : Bool) → lengths (cond b ((x ∷ y ∷ f.run) ∷ f.rest) ((x ∷ []) ∷ (y ∷ f.run) ∷ f.rest)) ≡ cond b (suc n ∷ others) (1 ∷ n ∷ others)
  split true = ap (λ m. suc m ∷ lengths f.rest) (same_head (suc (length f.run)) n (lengths f.rest) others known) ∙ ap (λ l. suc n ∷ l) (same_tail (suc (length f.run)) n (lengths f.rest) others known)
  split false = ap (λ l. 1 ∷ l) known

-- the first run is the equal men at the beginning, and the other runs are those of the men after it
pub run_lengths-cons : (x : ℕ) (xs : List ℕ) → run_lengths (x ∷ xs) ≡ leading x (x ∷ xs) ∷ run_lengths (drop (leading x (x ∷ xs)) (x ∷ xs))
unfolding runs_of
run_lengths-cons x [] = alone (x == x) (eq-eqb x x refl) where
  alone : (b : Bool) → b ≡ true → 1 ∷ [] ≡ cond b 1 0 ∷ run_lengths (drop (cond b 1 0) (x ∷ []))
  alone true e = refl
  alone false e = cc
run_lengths-cons x (y ∷ ys) =
    joined x y (leading y (y ∷ ys)) (runs_of (y ∷ ys)) (run_lengths (drop (leading y (y ∷ ys)) (y ∷ ys))) (first_of y (runs_of ys)) (run_lengths-cons y ys)
    ∙ rw (eq-eqb x x refl) (split (x == y) (λ e. eqb-true x y e) (run_lengths-cons y ys))
  where
    split : (b : Bool) → (b ≡ true → x ≡ y) → run_lengths (y ∷ ys) ≡ leading y (y ∷ ys) ∷ run_lengths (drop (leading y (y ∷ ys)) (y ∷ ys)) →
        cond b (suc (leading y (y ∷ ys)) ∷ run_lengths (drop (leading y (y ∷ ys)) (y ∷ ys))) (1 ∷ leading y (y ∷ ys) ∷ run_lengths (drop (leading y (y ∷ ys)) (y ∷ ys)))
        ≡ suc (cond b (suc (leading x ys)) 0) ∷ run_lengths (drop (cond b (suc (leading x ys)) 0) (y ∷ ys))
    split true h known = rw (eq-eqb y y refl) (ap (λ z. suc (suc (leading z ys)) ∷ run_lengths (drop (suc (leading z ys)) (y ∷ ys))) (sym (h refl)))
    split false h known = sym (ap (λ l. 1 ∷ l) known)

-- ---- one step of the loop over runs

pub runs_step : (x n : ℕ) (items rest following all : List ℕ) → slice_get rest 0 ≡ Some x → n ≡ leading x rest → following ≡ drop n rest →
    items ++ run_lengths rest ≡ all → (items ++ n ∷ []) ++ run_lengths following ≡ all
runs_step x n items [] following all e f g h = cc
runs_step x n items (y ∷ ys) following all e f g h =
    let same : y ≡ x = cc in
    let first : n ≡ leading y (y ∷ ys) = f ∙ ap (λ z. leading z (y ∷ ys)) (sym same) in
    append_assoc items (n ∷ []) (run_lengths following)
    ∙ ap (λ l. items ++ n ∷ run_lengths l) g
    ∙ ap (λ m. items ++ m ∷ run_lengths (drop m (y ∷ ys))) first
    ∙ ap (λ l. items ++ l) (sym (run_lengths-cons y ys))
    ∙ h

pub runs_none : (items rest : List ℕ) → slice_get rest 0 ≡ None → items ≡ items ++ run_lengths rest
unfolding runs_of
runs_none items [] e = sym (append-nil items)
runs_none items (y ∷ ys) e = cc

-- ---- the lengths of groups

pub sum-lengths : (gs : List (List ℕ)) → sum (lengths gs) ≡ length (concat gs)
sum-lengths [] = refl
sum-lengths (g ∷ gs) = sum_by-cons (λ n. n) (length g) (lengths gs) ∙ ap (λ n. length g + n) (sum-lengths gs) ∙ sym (length-append g (concat gs))

prepend_man-le : (x : ℕ) (runs : List (List ℕ)) → length (prepend_man x runs) ≤ suc (length runs)
prepend_man-le x [] = omega arith
prepend_man-le x ([] ∷ runs) = omega arith
prepend_man-le x ((y ∷ run) ∷ runs) = elim (x == y) as (λ b. length (cond b ((x ∷ y ∷ run) ∷ runs) ((x ∷ []) ∷ (y ∷ run) ∷ runs)) ≤ suc (suc (length runs))) [
  | true ↦ omega arith
  | false ↦ omega arith
]

runs-le : (men : List ℕ) → length (runs_of men) ≤ length men
unfolding runs_of
runs-le [] = omega arith
runs-le (x ∷ xs) = let a = prepend_man-le x (runs_of xs) in let b = runs-le xs in omega (arith, a, b)

-- the groups of a list with enough men: their lengths, their number, and their total number of men
pub lengths_given : (pawns : Bool) (lead other : ℕ) (men : List ℕ) → (pawns ≡ false → other ≡ 0) → lead + other ≤ length men →
    lengths (take lead men ∷ (cond (pawns && nat_lt 0 other) (take other (drop lead men) ∷ []) []) ++ runs_of (drop (lead + cond pawns other 0) men)) ≡ lengths_of lead other men
lengths_given false lead other men h k =
    let none : other ≡ 0 = h refl in
    let first : length (take lead men) ≡ lead = let e = length-take lead men in omega (arith, e, k) in
    rw none (ap (λ n. n ∷ run_lengths (drop (lead + 0) men)) first)
lengths_given true lead other men h k =
    let first : length (take lead men) ≡ lead = let e = length-take lead men in omega (arith, e, k) in
    let second : length (take other (drop lead men)) ≡ other = let e = length-take other (drop lead men) in let f = length-drop lead men in omega (arith, e, f, k) in
    split (nat_lt 0 other) first second
  where
    split : (b : Bool) → length (take lead men) ≡ lead → length (take other (drop lead men)) ≡ other →
        lengths (take lead men ∷ (cond b (take other (drop lead men) ∷ []) []) ++ runs_of (drop (lead + other) men)) ≡ lead ∷ (cond b (other ∷ []) []) ++ run_lengths (drop (lead + other) men)
    split true p q = ap (λ n. n ∷ length (take other (drop lead men)) ∷ run_lengths (drop (lead + other) men)) p ∙ ap (λ n. lead ∷ n ∷ run_lengths (drop (lead + other) men)) q
    split false p q = ap (λ n. n ∷ run_lengths (drop (lead + other) men)) p

pub length-run_lengths-le : (men : List ℕ) → length (run_lengths men) ≤ length men
length-run_lengths-le men = let a = length-map (runs_of men) (λ run. length run) in let b = runs-le men in omega (arith, a, b)

pub sum-run_lengths : (men : List ℕ) → sum (run_lengths men) ≡ length men
sum-run_lengths men = sum-lengths (runs_of men) ∙ length-runs men

-- the lengths of the first one or two groups
pub length-prefix : (lead other : ℕ) → 0 < lead → length (lead ∷ cond (nat_lt 0 other) (other ∷ []) []) ≤ lead + other
length-prefix lead other h = elim (cases_ltb other) [
  | inl t ↦ rw t.0 (let p = t.1 in omega (arith, h, p))
  | inr f ↦ rw f (omega (arith, h))
] where
  cases_ltb : (other : ℕ) → ((nat_lt 0 other ≡ true) × (0 < other)) ⊎ (nat_lt 0 other ≡ false)
  cases_ltb zero = inr refl
  cases_ltb (suc n) = inl (lt-ltb 0 (suc n) (omega arith), omega arith)

pub sum-prefix : (lead other : ℕ) → sum (lead ∷ cond (nat_lt 0 other) (other ∷ []) []) ≡ lead + other
sum-prefix lead zero = omega arith
sum-prefix lead (suc other) = rw (lt-ltb 0 (suc other) (omega arith)) (omega arith)

pub length-lengths_of-le : (lead other : ℕ) (men : List ℕ) → 0 < lead → lead + other ≤ length men → length (lengths_of lead other men) ≤ length men
length-lengths_of-le lead other men h k =
    let a = length-append (lead ∷ cond (nat_lt 0 other) (other ∷ []) []) (run_lengths (drop (lead + other) men)) in
    let b = length-prefix lead other h in let d = length-run_lengths-le (drop (lead + other) men) in let e = length-drop (lead + other) men in
    omega (arith, a, b, d, e, k)

pub sum-lengths_of : (lead other : ℕ) (men : List ℕ) → lead + other ≤ length men → sum (lengths_of lead other men) ≡ length men
sum-lengths_of lead other men k =
    let a = sum_by-append (λ (n : ℕ). n) (lead ∷ cond (nat_lt 0 other) (other ∷ []) []) (run_lengths (drop (lead + other) men)) in
    let b = sum-prefix lead other in let d = sum-run_lengths (drop (lead + other) men) in let e = length-drop (lead + other) men in
    omega (arith, a, b, d, e, k)

-- the lengths of the groups, joined from their parts
pub cut_given : (lead other l o m : ℕ) (men first following items : List ℕ) → lead ≡ l → other ≡ o → m ≡ lead + other →
    first ≡ lead ∷ cond (nat_lt 0 other) (other ∷ []) [] → following ≡ drop m men → items ≡ first ++ run_lengths following → items ≡ lengths_of l o men
cut_given lead other l o m men first following items e f g h i j =
    j ∙ ap (λ x. x ++ run_lengths following) h ∙ ap (λ x. (lead ∷ cond (nat_lt 0 other) (other ∷ []) []) ++ run_lengths x) (i ∙ ap (λ n. drop n men) g)
    ∙ ap (λ n. lengths_of n other men) e ∙ ap (λ n. lengths_of l n men) f

-- a run has at least one man
pub leading-first : (x : ℕ) (men : List ℕ) → slice_get men 0 ≡ Some x → 0 < leading x men
leading-first x [] e = cc
leading-first x (y ∷ men) e = let same : y ≡ x = cc in rw (eq-eqb x y (sym same)) (omega arith)
