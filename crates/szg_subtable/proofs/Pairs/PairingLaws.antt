-- Replacing a pair keeps the values, makes the list shorter by one symbol each time, and loses no symbol.
use Rattle.std.proofs.Common.{◌≡◌, ℕ, suc, ◌<◌, true, false, List, [], ◌∷◌, ◌++◌, refl, sym, ap, subst, ◌∙◌, append_assoc, arith, inl, inr}
use Rattle.std.specs.Prelude.{◌==◌, ◌&&◌, ◌⊎◌}
use Rattle.std.specs.List.{flat_map}
use Rattle.std.proofs.lemmas.Bool.{eqb-true, and_parts}
use Rattle.szg_code.specs.Canonical.{IsIn}
use Rattle.szg_subtable.specs.Pairing.{pair_count, replaced}
use Rattle.szg_subtable.proofs.Pairs.Tests.{bool_cases}

is_left : (left right s t : ℕ) → ((s == left) && (t == right)) ≡ true → s ≡ left
is_left left right s t e = eqb-true s left (and_parts (s == left) (t == right) e).0

is_right : (left right s t : ℕ) → ((s == left) && (t == right)) ≡ true → t ≡ right
is_right left right s t e = eqb-true t right (and_parts (s == left) (t == right) e).1

pub replaced-here : (left right new s t : ℕ) (symbols : List ℕ) → ((s == left) && (t == right)) ≡ true → replaced left right new (s ∷ t ∷ symbols) ≡ new ∷ replaced left right new symbols
replaced-here left right new s t symbols e = rw (e, replaced) refl

pub replaced-later : (left right new s t : ℕ) (symbols : List ℕ) → ((s == left) && (t == right)) ≡ false → replaced left right new (s ∷ t ∷ symbols) ≡ s ∷ replaced left right new (t ∷ symbols)
replaced-later left right new s t symbols e = rw (e, replaced) refl

pub pair_count-here : (left right s t : ℕ) (symbols : List ℕ) → ((s == left) && (t == right)) ≡ true → pair_count left right (s ∷ t ∷ symbols) ≡ suc (pair_count left right symbols)
pair_count-here left right s t symbols e = rw (e, pair_count) refl

pub pair_count-later : (left right s t : ℕ) (symbols : List ℕ) → ((s == left) && (t == right)) ≡ false → pair_count left right (s ∷ t ∷ symbols) ≡ pair_count left right (t ∷ symbols)
pair_count-later left right s t symbols e = rw (e, pair_count) refl

-- If the new symbol has the values of the pair, the values stay.
pub values-replaced : (values : ℕ → List ℕ) (left right new : ℕ) → values new ≡ values left ++ values right → (symbols : List ℕ) →
    flat_map values (replaced left right new symbols) ≡ flat_map values symbols
values-replaced values left right new e [] = refl
values-replaced values left right new e (s ∷ []) = refl
values-replaced values left right new e (s ∷ t ∷ symbols) =
    elim (bool_cases ((s == left) && (t == right))) [
      | inl h ↦
          let l : s ≡ left = is_left left right s t h in
          let r : t ≡ right = is_right left right s t h in
          ap (flat_map values) (replaced-here left right new s t symbols h)
          ∙ ap (λ (z : List ℕ). values new ++ z) (values-replaced values left right new e symbols)
          ∙ ap (λ (z : List ℕ). z ++ flat_map values symbols) e
          ∙ append_assoc (values left) (values right) (flat_map values symbols)
          ∙ ap (λ (z : ℕ). values z ++ (values right ++ flat_map values symbols)) (sym l)
          ∙ ap (λ (z : ℕ). values s ++ (values z ++ flat_map values symbols)) (sym r)
      | inr h ↦
          ap (flat_map values) (replaced-later left right new s t symbols h)
          ∙ ap (λ (z : List ℕ). values s ++ z) (values-replaced values left right new e (t ∷ symbols))
    ]

shifted : (new left right x : ℕ) (xs : List ℕ) → IsIn xs x ⊎ ((x ≡ left) ⊎ (x ≡ right)) → IsIn (new ∷ xs) x ⊎ ((x ≡ left) ⊎ (x ≡ right))
shifted new left right x xs (inl h) = inl (inr h)
shifted new left right x xs (inr h) = inr h

-- A symbol of the list is still in the list, or is a symbol of the replaced pair. So each pair stays in use.
pub replaced-keeps : (left right new x : ℕ) (symbols : List ℕ) → IsIn symbols x → IsIn (replaced left right new symbols) x ⊎ ((x ≡ left) ⊎ (x ≡ right))
replaced-keeps left right new x [] h = absurd h
replaced-keeps left right new x (s ∷ []) h = inl h
replaced-keeps left right new x (s ∷ t ∷ symbols) h =
    elim (bool_cases ((s == left) && (t == right))) [
      | inl e ↦
          let P : List ℕ → Type 0 = λ (z : List ℕ). IsIn z x ⊎ ((x ≡ left) ⊎ (x ≡ right)) in
          subst P (sym (replaced-here left right new s t symbols e))
          (elim h [
            | inl here ↦ inr (inl (sym here ∙ is_left left right s t e))
            | inr (inl next) ↦ inr (inr (sym next ∙ is_right left right s t e))
            | inr (inr later) ↦ shifted new left right x (replaced left right new symbols) (replaced-keeps left right new x symbols later)
          ])
      | inr e ↦
          let P : List ℕ → Type 0 = λ (z : List ℕ). IsIn z x ⊎ ((x ≡ left) ⊎ (x ≡ right)) in
          subst P (sym (replaced-later left right new s t symbols e))
          (elim h [
            | inl here ↦ inl (inl here)
            | inr more ↦ shifted s left right x (replaced left right new (t ∷ symbols)) (replaced-keeps left right new x (t ∷ symbols) more)
          ])
    ]

-- If a pair occurs, its symbol is in the list after it is replaced.
pub replaced-has : (left right new : ℕ) (symbols : List ℕ) → 0 < pair_count left right symbols → IsIn (replaced left right new symbols) new
replaced-has left right new [] h = absurd (omega (arith, h))
replaced-has left right new (s ∷ []) h = absurd (omega (arith, h))
replaced-has left right new (s ∷ t ∷ symbols) h =
    elim (bool_cases ((s == left) && (t == right))) [
      | inl e ↦ subst (λ z. IsIn z new) (sym (replaced-here left right new s t symbols e)) (inl refl)
      | inr e ↦
          let same : pair_count left right (s ∷ t ∷ symbols) ≡ pair_count left right (t ∷ symbols) = pair_count-later left right s t symbols e in
          subst (λ z. IsIn z new) (sym (replaced-later left right new s t symbols e)) (inr (replaced-has left right new (t ∷ symbols) (omega (arith, h, same))))
    ]
