-- Sets of a list by the numbers of its elements, which are counted from the end of the list.
use Rattle.std.proofs.Common.{◌≡◌, ℕ, zero, suc, ◌+◌, ◌<◌, ◌≤◌, inl, inr, List, [], ◌∷◌, ◌++◌, length, map, get_or, refl, sym, ap, ◌∙◌, subst, arith, length-append}
use Rattle.std.specs.Prelude.{Some, slice_get, slice_index, reverse, option_map}
use Rattle.std.proofs.lemmas.List.{length-map}
use Rattle.std.proofs.lemmas.Option.{slice_get-map, slice_get_within}
use Rattle.szg_count.specs.Sets.{sets_of, subsets, IsFallingBelow}
use Rattle.szg_count.specs.Leads.{lists_by}
use Rattle.szg_count.specs.Laws.{IsIn}
use Rattle.szg_count.proofs.SubsetRanks.{subsets_fall, sets_numbered}
use Rattle.szg_count.proofs.Counting.{subset_count}
use Rattle.szg_count.proofs.Binomials.{choose_small}
use Rattle.szg_count.proofs.Sizes.{power}
use Rattle.szg_count.proofs.Differ.{IsIn-map}

pub IsIn-get_or : (xs : List ℕ) (i d : ℕ) → i < length xs → IsIn (get_or xs i d) xs
IsIn-get_or [] i d h = absurd (omega (arith, h))
IsIn-get_or (x ∷ xs) zero d h = inl refl
IsIn-get_or (x ∷ xs) (suc i) d h = inr (IsIn-get_or xs i d (omega (arith, h)))

-- the number of each element is its index from the end of the list
abbrev pub IsNumbering : (ℕ → ℕ) → List ℕ → Type 0
IsNumbering number xs = (j : ℕ) → j < length xs → number (slice_index (reverse xs) j) ≡ j

pub falling_below : (n : ℕ) (set : List ℕ) (j : ℕ) → IsFallingBelow n set → IsIn j set → j < n
falling_below n [] j f h = absurd h
falling_below n (x ∷ xs) j f (inl e) = let a = f.0 in omega (arith, a, e)
falling_below n (x ∷ xs) j f (inr h) = let a = f.0 in let b = falling_below x xs j f.1 h in omega (arith, a, b)

pub wider : (m n : ℕ) (set : List ℕ) → m ≤ n → IsFallingBelow m set → IsFallingBelow n set
wider m n [] h f = tt
wider m n (x ∷ xs) h f = let a = f.0 in (omega (arith, a, h), f.1)

numbers_back : (number : ℕ → ℕ) (xs nums : List ℕ) → IsNumbering number xs → ((j : ℕ) → IsIn j nums → j < length xs) →
    map number (map (slice_index (reverse xs)) nums) ≡ nums
numbers_back number xs [] h b = refl
numbers_back number xs (n ∷ nums) h b =
    let here : number (slice_index (reverse xs) n) ≡ n = h n (b n (inl refl)) in
    let more = numbers_back number xs nums h (λ j i. b j (inr i)) in
    (λ i. here i ∷ more i)

-- the numbers of a set: r of them, falling, and those of its elements
pub record IsNumbered (number : ℕ → ℕ) (xs : List ℕ) (r : ℕ) (set : List ℕ) : Type 0 where
  pub size : length (map number set) ≡ r
  pub falling : IsFallingBelow (length xs) (map number set)
  pub back : map (slice_index (reverse xs)) (map number set) ≡ set

pub set_numbers : (number : ℕ → ℕ) (xs : List ℕ) (r : ℕ) (set : List ℕ) → IsNumbering number xs → IsIn set (sets_of r xs) → IsNumbered number xs r set
set_numbers number xs r set h i =
    let p = IsIn-map (map (slice_index (reverse xs))) (subsets (length xs) r) set (subst (λ (l : List (List ℕ)). IsIn set l) (sets_numbered r xs) i) in
    let f = (subsets_fall (length xs) r p.0).0 p.1 in
    let back : map number set ≡ p.0 = ap (map number) p.2 ∙ numbers_back number xs p.0 h (λ j m. falling_below (length xs) p.0 j f.1 m) in record {
      size = ap length back ∙ f.0;
      falling = subst (λ (l : List ℕ). IsFallingBelow (length xs) l) (sym back) f.1;
      back = ap (map (slice_index (reverse xs))) back ∙ sym p.2;
    }

-- the set with a rank
pub set_stated : (xs : List ℕ) (r j : ℕ) (nums : List ℕ) → slice_get (subsets (length xs) r) j ≡ Some nums →
    slice_get (sets_of r xs) j ≡ Some (map (slice_index (reverse xs)) nums)
set_stated xs r j nums e =
    ap (λ (l : List (List ℕ)). slice_get l j) (sets_numbered r xs)
    ∙ slice_get-map (map (slice_index (reverse xs))) (subsets (length xs) r) j
    ∙ ap (λ o. option_map (map (slice_index (reverse xs))) o) e

-- a set is at the rank of its numbers
pub set_placed : (number : ℕ → ℕ) (xs : List ℕ) (r j : ℕ) (set : List ℕ) → IsNumbered number xs r set →
    slice_get (subsets (length xs) (length (map number set))) j ≡ Some (map number set) → slice_get (sets_of r xs) j ≡ Some set
set_placed number xs r j set h e =
    set_stated xs r j (map number set) (subst (λ (n : ℕ). slice_get (subsets (length xs) n) j ≡ Some (map number set)) h.size e)
    ∙ ap Some h.back

-- a rank is below the bound
pub rank_small : (n r j : ℕ) (set : List ℕ) → n ≤ 64 → r ≤ 6 → slice_get (subsets n r) j ≡ Some set → j < power 6
rank_small n r j set m k e =
    let a = slice_get_within (subsets n r) j set e in let b = subset_count n r in let c = choose_small n r 6 m k in omega (arith, a, b, c)

-- ---- lists by their first element

get-left : (xs ys : List (List ℕ)) (i : ℕ) (set : List ℕ) → slice_get xs i ≡ Some set → slice_get (xs ++ ys) i ≡ Some set
get-left [] ys i set e = cc
get-left (x ∷ xs) ys zero set e = e
get-left (x ∷ xs) ys (suc i) set e = get-left xs ys i set e

get-right : (xs ys : List (List ℕ)) (n i : ℕ) → n ≡ length xs → slice_get (xs ++ ys) (n + i) ≡ slice_get ys i
get-right [] ys n i m = let e : n + i ≡ i = omega (arith, m) in ap (λ k. slice_get ys k) e
get-right (x ∷ xs) ys n i m = let e : n + i ≡ suc (length xs + i) = omega (arith, m) in
    ap (λ k. slice_get (x ∷ xs ++ ys) k) e ∙ get-right xs ys (length xs) i refl

get-front : (x : ℕ) (sets : List (List ℕ)) (i : ℕ) (set : List ℕ) → slice_get sets i ≡ Some set → slice_get (map (λ rest. x ∷ rest) sets) i ≡ Some (x ∷ set)
get-front x [] i set e = cc
get-front x (s ∷ sets) zero set e = let f : s ≡ set = cc in ap (λ (t : List ℕ). Some (x ∷ t)) f
get-front x (s ∷ sets) (suc i) set e = get-front x sets i set e

-- the sum of the first r sizes
abbrev pub sizes_before : (ℕ → ℕ) → List ℕ → ℕ → ℕ
sizes_before size [] r = 0
sizes_before size (x ∷ xs) zero = 0
sizes_before size (x ∷ xs) (suc r) = size x + sizes_before size xs r

pub sizes_same : (f g : ℕ → ℕ) (xs : List ℕ) (r : ℕ) → ((x : ℕ) → f x ≡ g x) → sizes_before f xs r ≡ sizes_before g xs r
sizes_same f g [] r h = refl
sizes_same f g (x ∷ xs) zero h = refl
sizes_same f g (x ∷ xs) (suc r) h = let a = h x in let b = sizes_same f g xs r h in omega (arith, a, b)

pub sizes_more : (size : ℕ → ℕ) (xs : List ℕ) (r : ℕ) → r < length xs → sizes_before size xs (suc r) ≡ sizes_before size xs r + size (slice_index xs r)
sizes_more size [] r h = absurd (omega (arith, h))
sizes_more size (x ∷ []) zero h = omega arith
sizes_more size (x ∷ y ∷ xs) zero h = omega arith
sizes_more size (x ∷ xs) (suc r) h = let k = sizes_more size xs r (omega (arith, h)) in omega (arith, k)

pub sizes_all : (xs : List ℕ) (rests : ℕ → List (List ℕ)) (r : ℕ) → r ≡ length xs → length (lists_by xs rests) ≡ sizes_before (λ x. length (rests x)) xs r
unfolding lists_by
sizes_all [] rests r h = refl
sizes_all (x ∷ xs) rests zero h = absurd (omega (arith, h))
sizes_all (x ∷ xs) rests (suc r) h =
    let a = length-append (map (λ rest. x ∷ rest) (rests x)) (lists_by xs rests) in
    let b = length-map (rests x) (λ rest. x ∷ rest) in
    let k = sizes_all xs rests r (omega (arith, h)) in omega (arith, a, b, k)

pub lists_by-at : (xs : List ℕ) (rests : ℕ → List (List ℕ)) (r i : ℕ) (rest : List ℕ) → r < length xs → slice_get (rests (slice_index xs r)) i ≡ Some rest →
    slice_get (lists_by xs rests) (sizes_before (λ x. length (rests x)) xs r + i) ≡ Some (slice_index xs r ∷ rest)
unfolding lists_by
lists_by-at [] rests r i rest h e = absurd (omega (arith, h))
lists_by-at (x ∷ xs) rests zero i rest h e =
    let z : 0 + i ≡ i = omega arith in
    ap (λ k. slice_get (map (λ rest. x ∷ rest) (rests x) ++ lists_by xs rests) k) z
    ∙ get-left (map (λ rest. x ∷ rest) (rests x)) (lists_by xs rests) i (x ∷ rest) (get-front x (rests x) i rest e)
lists_by-at (x ∷ xs) rests (suc r) i rest h e =
    let z : (length (rests x) + sizes_before (λ x. length (rests x)) xs r) + i ≡ length (rests x) + (sizes_before (λ x. length (rests x)) xs r + i) = omega arith in
    ap (λ k. slice_get (map (λ rest. x ∷ rest) (rests x) ++ lists_by xs rests) k) z
    ∙ get-right (map (λ rest. x ∷ rest) (rests x)) (lists_by xs rests) (length (rests x)) (sizes_before (λ x. length (rests x)) xs r + i) (sym (length-map (rests x) (λ rest. x ∷ rest)))
    ∙ lists_by-at xs rests r i rest (omega (arith, h)) e
