-- The rank of a set in a list, and the set of a rank.
use Rattle.std.proofs.Common.{◌≡◌, ℕ, zero, suc, ◌<◌, inl, inr, List, [], ◌∷◌, length, map, refl, sym, ap, ◌∙◌, subst, true, false, cond, arith}
use Rattle.std.specs.Prelude.{◌==◌, Some, slice_get}
use Rattle.std.proofs.lemmas.Bool.{cases_Bool, eqb-true, eq-eqb, and_parts}
use Rattle.szg_count.specs.Sets.{sets_of}
use Rattle.szg_count.specs.Leads.{is_same, rank_in}
use Rattle.szg_count.specs.Laws.{IsIn, AllDiffer}
use Rattle.szg_count.proofs.Differ.{IsIn-append, IsIn-prefix}

pub is_same-true : (xs ys : List ℕ) → is_same xs ys ≡ true → xs ≡ ys
is_same-true [] [] e = refl
is_same-true [] (y ∷ ys) e = cc
is_same-true (x ∷ xs) [] e = cc
is_same-true (x ∷ xs) (y ∷ ys) e =
    let a = eqb-true x y (and_parts (x == y) (is_same xs ys) e).0 in let b = is_same-true xs ys (and_parts (x == y) (is_same xs ys) e).1 in cc

pub is_same-self : (xs : List ℕ) → is_same xs xs ≡ true
is_same-self [] = refl
is_same-self (x ∷ xs) = rw (eq-eqb x x refl) (is_same-self xs)

pub rank_in-below : (sets : List (List ℕ)) (set : List ℕ) → IsIn set sets → rank_in sets set < length sets
unfolding rank_in
rank_in-below [] set h = absurd h
rank_in-below (s ∷ sets) set (inl e) = let k : is_same s set ≡ true = subst (λ (t : List ℕ). is_same s t ≡ true) (sym e) (is_same-self s) in rw k (omega arith)
rank_in-below (s ∷ sets) set (inr h) = elim (is_same s set) as (λ b. cond b 0 (suc (rank_in sets set)) < suc (length sets)) [
  | true ↦ omega arith
  | false ↦ let k = rank_in-below sets set h in omega (arith, k)
]

pub slice_get-rank_in : (sets : List (List ℕ)) (set : List ℕ) → IsIn set sets → slice_get sets (rank_in sets set) ≡ Some set
unfolding rank_in
slice_get-rank_in [] set h = absurd h
slice_get-rank_in (s ∷ sets) set (inl e) = let k : is_same s set ≡ true = subst (λ (t : List ℕ). is_same s t ≡ true) (sym e) (is_same-self s) in rw k (ap Some (sym e))
slice_get-rank_in (s ∷ sets) set (inr h) = elim (cases_Bool (is_same s set)) [
  | inl k ↦ rw k (ap Some (is_same-true s set k))
  | inr k ↦ rw k (slice_get-rank_in sets set h)
]

-- the set of a rank below the length
pub set_below : (sets : List (List ℕ)) (k : ℕ) → k < length sets → (set : List ℕ) × (slice_get sets k ≡ Some set) × IsIn set sets
set_below [] k h = absurd (omega arith)
set_below (s ∷ sets) zero h = (s, refl, inl refl)
set_below (s ∷ sets) (suc k) h = let r = set_below sets k (omega arith) in (r.0, r.1, inr r.2)

pub IsIn-slice_get : (sets : List (List ℕ)) (k : ℕ) (set : List ℕ) → slice_get sets k ≡ Some set → IsIn set sets
IsIn-slice_get [] k set e = cc
IsIn-slice_get (s ∷ sets) zero set e = let f : set ≡ s = cc in inl f
IsIn-slice_get (s ∷ sets) (suc k) set e = inr (IsIn-slice_get sets k set e)

pub rank_in-slice_get : (sets : List (List ℕ)) (k : ℕ) (set : List ℕ) → AllDiffer sets → slice_get sets k ≡ Some set → rank_in sets set ≡ k
unfolding rank_in
rank_in-slice_get [] k set d e = cc
rank_in-slice_get (s ∷ sets) zero set d e = let f : s ≡ set = cc in
    let k : is_same s set ≡ true = subst (λ (t : List ℕ). is_same s t ≡ true) f (is_same-self s) in rw k refl
rank_in-slice_get (s ∷ sets) (suc k) set d e = elim (cases_Bool (is_same s set)) [
  | inl f ↦ absurd (d.0 (subst (λ (t : List ℕ). IsIn t sets) (sym (is_same-true s set f)) (IsIn-slice_get sets k set e)))
  | inr f ↦ rw f (ap suc (rank_in-slice_get sets k set d.1 e))
]

-- a set of r has r members
pub length-set : (r : ℕ) (xs set : List ℕ) → IsIn set (sets_of r xs) → length set ≡ r
unfolding sets_of
length-set zero xs set (inl e) = ap length e
length-set zero xs set (inr h) = absurd h
length-set (suc r) [] set h = absurd h
length-set (suc r) (x ∷ xs) set h = elim (IsIn-append set (sets_of (suc r) xs) (map (λ rest. x ∷ rest) (sets_of r xs)) h) [
  | inl l ↦ length-set (suc r) xs set l
  | inr f ↦ let p = IsIn-prefix x (sets_of r xs) set f in ap length p.1 ∙ ap suc (length-set r xs p.0 p.2)
]
