-- Sets of numbers: their members, their order, and the rank of each.
use Rattle.std.proofs.Common.{◌≡◌, ℕ, zero, suc, ◌+◌, ◌-◌, ◌*◌, ◌<◌, ◌≤◌, ◌⊎◌, inl, inr, List, [], ◌∷◌, ◌++◌, length, map, get_or, drop, refl, sym, ap, ◌∙◌, subst, arith}
use Rattle.std.specs.Prelude.{Some, slice_get, slice_index, reverse}
use Rattle.std.proofs.lemmas.List.{map-append, length-reverse, get_or_append_left}
use Rattle.std.proofs.lemmas.Grind.{reverse_onto}
use Rattle.std.proofs.Math.Seq.{get_or-append_seam}
use Rattle.std.proofs.lemmas.Bool.Decides.{eqb_tells}
use Rattle.std.proofs.lemmas.Option.{slice_get_within}
use Rattle.szg_count.specs.Sets.{sets_of, numbers_below, subsets, choose, IsFallingBelow, binomial_sum}
use Rattle.szg_count.specs.Laws.{IsIn, IsBefore, LawSubsetsFall, LawSubsetsRise, LawRankSubset, LawSetsNumbered}
use Rattle.szg_count.proofs.Counting.{subset_count, choose-zero, choose-none, choose-suc}
use Rattle.szg_count.proofs.Differ.{IsIn-append, IsIn-append_left, IsIn-append_right, IsIn-prefix, IsIn-prefix_back}
use Rattle.szg_count.proofs.Sizes.{power}
use Rattle.szg_count.proofs.Binomials.{choose_small}
use Rattle.szg_count.proofs.RanksInLists.{IsIn-slice_get, length-set}

-- ---- the members of the sets

wider : (m n : ℕ) (set : List ℕ) → m ≤ n → IsFallingBelow m set → IsFallingBelow n set
wider m n [] h f = tt
wider m n (x ∷ xs) h f = let a = f.0 in (omega (arith, a), f.1)

subsets-more : (n r : ℕ) → subsets (suc n) (suc r) ≡ subsets n (suc r) ++ map (λ set. n ∷ set) (subsets n r)
unfolding sets_of numbers_below
subsets-more n r = refl

subsets-zero : (n : ℕ) → subsets n 0 ≡ [] ∷ []
unfolding sets_of
subsets-zero n = refl

subsets-none : (r : ℕ) → subsets 0 (suc r) ≡ []
unfolding sets_of numbers_below
subsets-none r = refl

falls : (n r : ℕ) (set : List ℕ) → IsIn set (subsets n r) → IsFallingBelow n set
falls n zero set h = elim (subst (λ (l : List (List ℕ)). IsIn set l) (subsets-zero n) h) [
  | inl e ↦ subst (λ (s : List ℕ). IsFallingBelow n s) (sym e) tt
  | inr k ↦ absurd k
]
falls zero (suc r) set h = absurd (subst (λ (l : List (List ℕ)). IsIn set l) (subsets-none r) h)
falls (suc n) (suc r) set h =
    elim (IsIn-append set (subsets n (suc r)) (map (λ rest. n ∷ rest) (subsets n r)) (subst (λ (l : List (List ℕ)). IsIn set l) (subsets-more n r) h)) [
      | inl l ↦ wider n (suc n) set (omega arith) (falls n (suc r) set l)
      | inr f ↦ let p = IsIn-prefix n (subsets n r) set f in
          subst (λ (s : List ℕ). IsFallingBelow (suc n) s) (sym p.1) (omega arith, falls n r p.0 p.2)
    ]

holds : (n : ℕ) (set : List ℕ) → IsFallingBelow n set → IsIn set (subsets n (length set))
holds n [] f = subst (λ (l : List (List ℕ)). IsIn [] l) (sym (subsets-zero n)) (inl refl)
holds zero (x ∷ xs) f = absurd (let a = f.0 in omega (arith, a))
holds (suc n) (x ∷ xs) f = subst (λ (l : List (List ℕ)). IsIn (x ∷ xs) l) (sym (subsets-more n (length xs))) (elim (eqb_tells x n) [
  | inl e ↦ IsIn-append_right (x ∷ xs) (subsets n (suc (length xs))) (map (λ rest. n ∷ rest) (subsets n (length xs)))
      (subst (λ (m : ℕ). IsIn (x ∷ xs) (map (λ rest. m ∷ rest) (subsets m (length xs)))) e.1
      (IsIn-prefix_back x (subsets x (length xs)) xs (holds x xs f.1)))
  | inr k ↦ IsIn-append_left (x ∷ xs) (subsets n (suc (length xs))) (map (λ rest. n ∷ rest) (subsets n (length xs)))
      (holds n (x ∷ xs) (let a = f.0 in let b = k.1 in omega (arith, a, b), f.1))
])

pub subsets_fall : LawSubsetsFall
subsets_fall n r set = (
  λ h. (length-set r (numbers_below n) set h, falls n r set h),
  λ h. subst (λ (k : ℕ). IsIn set (subsets n k)) h.0 (holds n set h.1),
)

-- ---- their order

-- the order of two lists, one after the other
get-left : (xs ys : List (List ℕ)) (i : ℕ) (set : List ℕ) → slice_get xs i ≡ Some set → slice_get (xs ++ ys) i ≡ Some set
get-left [] ys i set e = cc
get-left (x ∷ xs) ys zero set e = e
get-left (x ∷ xs) ys (suc i) set e = get-left xs ys i set e

get-right : (xs ys : List (List ℕ)) (i : ℕ) → slice_get (xs ++ ys) (length xs + i) ≡ slice_get ys i
get-right [] ys i = let e : 0 + i ≡ i = omega arith in ap (λ k. slice_get ys k) e
get-right (x ∷ xs) ys i = let e : suc (length xs) + i ≡ suc (length xs + i) = omega arith in
    ap (λ k. slice_get (x ∷ xs ++ ys) k) e ∙ get-right xs ys i

get-either : (xs ys : List (List ℕ)) (i : ℕ) (set : List ℕ) → slice_get (xs ++ ys) i ≡ Some set →
    (slice_get xs i ≡ Some set) ⊎ ((j : ℕ) × (i ≡ length xs + j) × (slice_get ys j ≡ Some set))
get-either [] ys i set e = inr (i, omega arith, e)
get-either (x ∷ xs) ys zero set e = inl e
get-either (x ∷ xs) ys (suc i) set e = elim (get-either xs ys i set e) [
  | inl l ↦ inl l
  | inr r ↦ inr (r.0, let m = r.1 in omega (arith, m), r.2)
]

get-prefix : (x : ℕ) (sets : List (List ℕ)) (i : ℕ) (set : List ℕ) → slice_get sets i ≡ Some set → slice_get (map (λ rest. x ∷ rest) sets) i ≡ Some (x ∷ set)
get-prefix x [] i set e = cc
get-prefix x (s ∷ sets) zero set e = let f : s ≡ set = cc in ap (λ (t : List ℕ). Some (x ∷ t)) f
get-prefix x (s ∷ sets) (suc i) set e = get-prefix x sets i set e

prefix-get : (x : ℕ) (sets : List (List ℕ)) (i : ℕ) (set : List ℕ) → slice_get (map (λ rest. x ∷ rest) sets) i ≡ Some set →
    (rest : List ℕ) × (set ≡ x ∷ rest) × (slice_get sets i ≡ Some rest)
prefix-get x [] i set e = cc
prefix-get x (s ∷ sets) zero set e = (s, cc, refl)
prefix-get x (s ∷ sets) (suc i) set e = prefix-get x sets i set e

-- the rank in the longer list: among the sets without its first number, or after them
later : (n r i : ℕ) (set : List ℕ) → slice_get (subsets n r) i ≡ Some set → slice_get (subsets (suc n) r) i ≡ Some set
later n zero i set e = subst (λ (l : List (List ℕ)). slice_get l i ≡ Some set) (sym (subsets-zero (suc n))) (subst (λ (l : List (List ℕ)). slice_get l i ≡ Some set) (subsets-zero n) e)
later n (suc r) i set e = subst (λ (l : List (List ℕ)). slice_get l i ≡ Some set) (sym (subsets-more n r))
    (get-left (subsets n (suc r)) (map (λ rest. n ∷ rest) (subsets n r)) i set e)

taken : (n r i : ℕ) (set : List ℕ) → slice_get (subsets n r) i ≡ Some set → slice_get (subsets (suc n) (suc r)) (choose n (suc r) + i) ≡ Some (n ∷ set)
taken n r i set e = subst (λ (l : List (List ℕ)). slice_get l (choose n (suc r) + i) ≡ Some (n ∷ set)) (sym (subsets-more n r))
    (ap (λ k. slice_get (subsets n (suc r) ++ map (λ rest. n ∷ rest) (subsets n r)) (k + i)) (sym (subset_count n (suc r)))
    ∙ get-right (subsets n (suc r)) (map (λ rest. n ∷ rest) (subsets n r)) i
    ∙ get-prefix n (subsets n r) i set e)

pub falls-at : (n r i : ℕ) (set : List ℕ) → slice_get (subsets n r) i ≡ Some set → (length set ≡ r) × IsFallingBelow n set
falls-at n r i set e = (subsets_fall n r set).0 (IsIn-slice_get (subsets n r) i set e)

-- a set without n before a set with it
first_less : (n r : ℕ) (a b rest : List ℕ) → length a ≡ suc r → IsFallingBelow n a → b ≡ n ∷ rest → IsBefore a b
first_less n r [] b rest l f e = cc
first_less n r (x ∷ xs) b rest l f e = subst (λ (s : List ℕ). IsBefore (x ∷ xs) s) (sym e) (inl f.0)

pub subsets_rise : LawSubsetsRise
subsets_rise n zero i j a b e f h =
    let k = slice_get_within (subsets n 0) j b f in let m = ap length (subsets-zero n) in absurd (omega (arith, k, m, h))
subsets_rise zero (suc r) i j a b e f h =
    let k = slice_get_within (subsets 0 (suc r)) j b f in let m = ap length (subsets-none r) in absurd (omega (arith, k, m))
subsets_rise (suc n) (suc r) i j a b e f h =
    let low = subsets n (suc r) in let high = map (λ rest. n ∷ rest) (subsets n r) in
    let at_i = get-either low high i a (subst (λ (l : List (List ℕ)). slice_get l i ≡ Some a) (subsets-more n r) e) in
    let at_j = get-either low high j b (subst (λ (l : List (List ℕ)). slice_get l j ≡ Some b) (subsets-more n r) f) in
    elim at_i [
      | inl p ↦ elim at_j [
        | inl q ↦ subsets_rise n (suc r) i j a b p q h
        | inr q ↦ let s = falls-at n (suc r) i a p in let t = prefix-get n (subsets n r) q.0 b q.2 in
            first_less n r a b t.0 s.0 s.1 t.1
      ]
      | inr p ↦ elim at_j [
        | inl q ↦ let k = slice_get_within low j b q in let m = p.1 in absurd (omega (arith, k, m, h))
        | inr q ↦
            let s = prefix-get n (subsets n r) p.0 a p.2 in let t = prefix-get n (subsets n r) q.0 b q.2 in
            let less : p.0 < q.0 = let x = p.1 in let y = q.1 in omega (arith, x, y, h) in
            subst (λ (l : List ℕ). IsBefore a l) (sym t.1) (subst (λ (l : List ℕ). IsBefore l (n ∷ t.0)) (sym s.1)
            (inr (refl, subsets_rise n r p.0 q.0 s.0 t.0 s.2 t.2 less)))
      ]
    ]

-- ---- the rank of a set

pub ranked : LawRankSubset
ranked n [] f = ap (λ (l : List (List ℕ)). slice_get l 0) (subsets-zero n)
ranked zero (x ∷ xs) f = absurd (let a = f.0 in omega (arith, a))
ranked (suc n) (x ∷ xs) f = elim (eqb_tells x n) [
  | inl e ↦ subst (λ (m : ℕ). slice_get (subsets (suc m) (suc (length xs))) (choose x (suc (length xs)) + binomial_sum xs) ≡ Some (x ∷ xs)) e.1
      (taken x (length xs) (binomial_sum xs) xs (ranked x xs f.1))
  | inr k ↦ later n (suc (length xs)) (binomial_sum (x ∷ xs)) (x ∷ xs) (ranked n (x ∷ xs) (let a = f.0 in let b = k.1 in omega (arith, a, b), f.1))
]

-- a rank fits into 64 bits
pub binomial_sum-bound : (n : ℕ) (set : List ℕ) → n ≤ 64 → IsFallingBelow n set → length set ≤ 6 → binomial_sum set ≤ length set * power 6
binomial_sum-bound n [] m f h = omega arith
binomial_sum-bound n (x ∷ xs) m f h =
    let a = f.0 in
    let more = binomial_sum-bound x xs (omega (arith, a, m)) f.1 (omega (arith, h)) in
    let here = choose_small x (suc (length xs)) 6 (omega (arith, a, m)) (omega (arith, h)) in
    omega (arith, more, here)

-- the remaining part of the rank from member i on
pub binomial_sum-drop : (i : ℕ) (set : List ℕ) → i < length set → binomial_sum (drop i set) ≡ choose (get_or set i 0) (length set - i) + binomial_sum (drop (i + 1) set)
binomial_sum-drop i [] h = absurd (omega (arith, h))
binomial_sum-drop zero (x ∷ xs) h =
    let e : suc (length xs) - 0 ≡ suc (length xs) = omega arith in ap (λ k. choose x k + binomial_sum xs) (sym e)
binomial_sum-drop (suc i) (x ∷ xs) h =
    let e : suc (length xs) - suc i ≡ length xs - i = omega arith in
    let d : drop (suc i + 1) (x ∷ xs) ≡ drop (i + 1) xs = ap (λ k. drop k (x ∷ xs)) (let k : suc i + 1 ≡ suc (i + 1) = omega arith in k) in
    binomial_sum-drop i xs (omega (arith, h)) ∙ ap (λ k. choose (get_or xs i 0) k + binomial_sum (drop (i + 1) xs)) (sym e)
    ∙ ap (λ l. choose (get_or xs i 0) (suc (length xs) - suc i) + binomial_sum l) (sym d)

-- and after the last member nothing remains
pub binomial_sum-done : (i : ℕ) (set : List ℕ) → length set ≤ i → binomial_sum (drop i set) ≡ 0
binomial_sum-done zero [] h = refl
binomial_sum-done (suc i) [] h = refl
binomial_sum-done zero (x ∷ xs) h = absurd (omega (arith, h))
binomial_sum-done (suc i) (x ∷ xs) h = binomial_sum-done i xs (omega (arith, h))

-- ---- the set of a rank

-- a rank among the sets without the greatest number, and one after them
pub step_without : (m r i : ℕ) (set : List ℕ) → 0 < m → slice_get (subsets (m - 1) r) i ≡ Some set → slice_get (subsets m r) i ≡ Some set
step_without zero r i set h e = absurd (omega (arith, h))
step_without (suc m) r i set h e = let k : suc m - 1 ≡ m = omega arith in
    later m r i set (subst (λ (n : ℕ). slice_get (subsets n r) i ≡ Some set) k e)

pub step_with : (m r i : ℕ) (set : List ℕ) → 0 < m → 0 < r → choose (m - 1) r ≤ i → slice_get (subsets (m - 1) (r - 1)) (i - choose (m - 1) r) ≡ Some set →
    slice_get (subsets m r) i ≡ Some ((m - 1) ∷ set)
step_with zero r i set h k l e = absurd (omega (arith, h))
step_with (suc m) zero i set h k l e = absurd (omega (arith, k))
step_with (suc m) (suc r) i set h k l e =
    let a : suc m - 1 ≡ m = omega arith in let b : suc r - 1 ≡ r = omega arith in
    let f : slice_get (subsets m r) (i - choose m (suc r)) ≡ Some set = rw (a, b) at e in
    let g : choose m (suc r) ≤ i = rw a at l in
    let j : choose m (suc r) + (i - choose m (suc r)) ≡ i = omega (arith, g) in
    rw a (subst (λ (n : ℕ). slice_get (subsets (suc m) (suc r)) n ≡ Some (m ∷ set)) j (taken m r (i - choose m (suc r)) set f))

-- a rank after them needs a member, and is below the number of the sets with it
pub some_left : (m r i : ℕ) → 0 < m → i < choose m r → choose (m - 1) r ≤ i → 0 < r
some_left m zero i h b l = let x = choose-zero m in let y = choose-zero (m - 1) in absurd (omega (arith, x, y, b, l))
some_left m (suc r) i h b l = omega arith

pub below_with : (m r i : ℕ) → 0 < m → i < choose m r → choose (m - 1) r ≤ i → i - choose (m - 1) r < choose (m - 1) (r - 1)
below_with zero r i h b l = absurd (omega (arith, h))
below_with (suc m) zero i h b l = let x = choose-zero (suc m) in let y = choose-zero (suc m - 1) in absurd (omega (arith, x, y, b, l))
below_with (suc m) (suc r) i h b l =
    let a : suc m - 1 ≡ m = omega arith in let c : suc r - 1 ≡ r = omega arith in
    let g : choose m (suc r) ≤ i = rw a at l in let s = choose-suc m r in
    rw (a, c) (omega (arith, g, s, b))

-- no number remains: the only set is the empty one
pub none_left : (r i : ℕ) → i < choose 0 r → slice_get (subsets 0 r) i ≡ Some []
none_left zero i h = let x = choose-zero 0 in let e : i ≡ 0 = omega (arith, x, h) in
    rw e (ap (λ (l : List (List ℕ)). slice_get l 0) (subsets-zero 0))
none_left (suc r) i h = let x = choose-none r in absurd (omega (arith, x, h))

-- ---- sets of a list by the numbers of its elements

map-prefix : (f : ℕ → ℕ) (x : ℕ) (sets : List (List ℕ)) → map (map f) (map (λ rest. x ∷ rest) sets) ≡ map (λ rest. f x ∷ rest) (map (map f) sets)
map-prefix f x [] = refl
map-prefix f x (s ∷ sets) = ap (λ l. map f (x ∷ s) ∷ l) (map-prefix f x sets)

sets_of-map : (r : ℕ) (f : ℕ → ℕ) (xs : List ℕ) → sets_of r (map f xs) ≡ map (map f) (sets_of r xs)
unfolding sets_of
sets_of-map zero f xs = refl
sets_of-map (suc r) f [] = refl
sets_of-map (suc r) f (x ∷ xs) =
    rw (map-append (map f) (sets_of (suc r) xs) (map (λ set. x ∷ set) (sets_of r xs)), map-prefix f x (sets_of r xs), sets_of-map (suc r) f xs, sets_of-map r f xs) refl

-- the numbers name the elements
named : (n : ℕ) (f g : ℕ → ℕ) → ((k : ℕ) → k < n → f k ≡ g k) → map f (numbers_below n) ≡ map g (numbers_below n)
unfolding numbers_below
named zero f g h = refl
named (suc n) f g h = rw (h n (omega arith), named n f g (λ k l. h k (omega (arith, l)))) refl

numbered : (xs : List ℕ) → map (slice_index (reverse xs)) (numbers_below (length xs)) ≡ xs
unfolding numbers_below
numbered [] = refl
numbered (x ∷ xs) =
    let reversed : reverse (x ∷ xs) ≡ reverse xs ++ x ∷ [] = reverse_onto xs x [] in
    let size = length-reverse xs in
    let last : slice_index (reverse xs ++ x ∷ []) (length xs) ≡ x =
    ap (slice_index (reverse xs ++ x ∷ [])) (sym size) ∙ get_or-append_seam (reverse xs) x [] 0 in
    let first : slice_index (reverse (x ∷ xs)) (length xs) ≡ x = ap (λ l. slice_index l (length xs)) reversed ∙ last in
    let others : map (slice_index (reverse (x ∷ xs))) (numbers_below (length xs)) ≡ xs =
    named (length xs) (slice_index (reverse (x ∷ xs))) (slice_index (reverse xs))
    (λ k h. ap (λ l. slice_index l k) reversed ∙ get_or_append_left (reverse xs) (x ∷ []) 0 k (omega (arith, h, size)))
    ∙ numbered xs in
    (λ i. first i ∷ others i)

pub sets_numbered : LawSetsNumbered
sets_numbered r xs = ap (sets_of r) (sym (numbered xs)) ∙ sets_of-map r (slice_index (reverse xs)) (numbers_below (length xs))
