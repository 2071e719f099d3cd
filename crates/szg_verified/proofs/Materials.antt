-- Elements of lists of materials.
use Rattle.std.proofs.Common.{ℕ, ◌≡◌, ◌+◌, ◌<◌, ◌⊎◌, List, [], ◌∷◌, ◌++◌, length, sym, ap, ◌∙◌, subst, arith, inl, inr, get_or, take, Contains}
use Rattle.std.specs.Prelude.{OnOk, Result, Ok, Err, slice_index_or}
use Rattle.std.proofs.lemmas.List.{take_more}
use Rattle.std.proofs.lemmas.List.Elements.{Contains-append_cases}
use Rattle.szg_values.specs.Material.{Sides}

only : (x s : Sides) → Contains (x ∷ []) s → x ≡ s
only x s held = let zero : held.0 ≡ 0 = omega (arith, held.1) in subst (λ (i : ℕ). slice_index_or (x ∷ []) i s ≡ s) zero held.2

pub single : (x s : Sides) → x ≡ s → Contains (x ∷ []) s
single x s e = (0, omega arith, e)

-- an element of one more than the first i is that one, or among the first i
pub one_more : (xs : List Sides) (i : ℕ) (x s : Sides) → i < length xs → x ≡ get_or xs i x → Contains (take (i + 1) xs) s → (x ≡ s) ⊎ Contains (take i xs) s
one_more xs i x s less is held =
    let e : take (i + 1) xs ≡ take i xs ++ x ∷ [] = take_more xs i x less ∙ ap (λ (y : Sides). take i xs ++ y ∷ []) (sym is) in
    elim (Contains-append_cases (take i xs) (x ∷ []) s (subst (λ (ys : List Sides). Contains ys s) e held)) [ inl before ↦ inr before | inr last ↦ inl (only x s last) ]

pub on_ok : {T E : Type 0} (r : Result T E) (P : Type 0) → P → OnOk r P
on_ok (Ok x) P p = p
on_ok (Err e) P p = tt
