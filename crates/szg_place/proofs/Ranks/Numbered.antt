-- Lists of sets in which the rank of each set is its index.
use Rattle.std.proofs.Common.{◌≡◌, ℕ, zero, suc, ◌+◌, ◌<◌, inl, inr, List, [], ◌∷◌, length, sym, ap, ◌∙◌, subst, Bool, true, ◌&&◌, arith}
use Rattle.std.specs.Prelude.{◌==◌, Some, slice_get}
use Rattle.std.proofs.lemmas.Bool.{eqb-true, and_parts}
use Rattle.szg_count.specs.Leads.{is_same}
use Rattle.szg_count.specs.Laws.{IsIn}
use Rattle.szg_count.proofs.RanksInLists.{is_same-true}

-- the rank of each set is its index, counted from n on
abbrev pub are_numbered : (List ℕ → ℕ) → ℕ → List (List ℕ) → Bool
are_numbered number n [] = true
are_numbered number n (set ∷ sets) = number set == n && are_numbered number (suc n) sets

-- a set of the list is at its rank
pub at_number : (number : List ℕ → ℕ) (n : ℕ) (sets : List (List ℕ)) (set : List ℕ) → are_numbered number n sets ≡ true → IsIn set sets →
    (k : ℕ) × (number set ≡ n + k) × (slice_get sets k ≡ Some set)
at_number number n [] set e h = absurd h
at_number number n (s ∷ sets) set e (inl f) =
    let p = and_parts (number s == n) (are_numbered number (suc n) sets) e in
    let q = eqb-true (number s) n p.0 in let r : number set ≡ number s = ap number f in
    (0, omega (arith, q, r), ap Some (sym f))
at_number number n (s ∷ sets) set e (inr h) =
    let p = and_parts (number s == n) (are_numbered number (suc n) sets) e in
    let r = at_number number (suc n) sets set p.1 h in
    (suc r.0, let q = r.1 in omega (arith, q), r.2)

pub valid_at : (number : List ℕ → ℕ) (sets : List (List ℕ)) (set : List ℕ) → are_numbered number 0 sets ≡ true → IsIn set sets →
    slice_get sets (number set) ≡ Some set
valid_at number sets set e h =
    let r = at_number number 0 sets set e h in
    let k : r.0 ≡ number set = let q = r.1 in omega (arith, q) in
    subst (λ (m : ℕ). slice_get sets m ≡ Some set) k r.2

-- unranking each index returns the set there, counted from n on
abbrev pub are_stated : (ℕ → List ℕ) → ℕ → List (List ℕ) → Bool
are_stated stated n [] = true
are_stated stated n (set ∷ sets) = is_same (stated n) set && are_stated stated (suc n) sets

pub stated_from : (stated : ℕ → List ℕ) (n : ℕ) (sets : List (List ℕ)) (k : ℕ) → are_stated stated n sets ≡ true → k < length sets → slice_get sets k ≡ Some (stated (n + k))
stated_from stated n [] k e h = absurd (omega (arith, h))
stated_from stated n (s ∷ sets) zero e h =
    let p = and_parts (is_same (stated n) s) (are_stated stated (suc n) sets) e in
    let z : n ≡ n + 0 = omega arith in
    ap Some (sym (is_same-true (stated n) s p.0) ∙ ap stated z)
stated_from stated n (s ∷ sets) (suc k) e h =
    let p = and_parts (is_same (stated n) s) (are_stated stated (suc n) sets) e in
    let z : suc n + k ≡ n + suc k = omega arith in
    stated_from stated (suc n) sets k p.1 (omega (arith, h)) ∙ ap (λ m. Some (stated m)) z

pub stated_at : (stated : ℕ → List ℕ) (sets : List (List ℕ)) (k : ℕ) → are_stated stated 0 sets ≡ true → k < length sets → slice_get sets k ≡ Some (stated k)
stated_at stated sets k e h = let z : 0 + k ≡ k = omega arith in stated_from stated 0 sets k e h ∙ ap (λ m. Some (stated m)) z
