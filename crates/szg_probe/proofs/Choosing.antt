-- Lists under a test, and the best of classes.
use Rattle.std.proofs.Common.{◌≡◌, List, [], ◌∷◌, ◌++◌, map, refl, sym, ap, ◌∙◌, Bool, true, false, arith, inl, inr, ◌⊎◌}
use Rattle.std.specs.Prelude.{filter, flat_map, not}
use Rattle.std.proofs.lemmas.Bool.{cases_Bool}
use Rattle.szg_game.specs.Classes.{negate, better, best_after}
use Rattle.szg_game.specs.declared.Class.{Class}
use Rattle.szg_game.specs.declared.Class.TheVariants.{Loss, BlessedLoss, Draw, CursedWin, Win}
use Rattle.szg_game.proofs.Graded.{level-better, level-injective}
use Rattle.szg_game.proofs.Lists.{IsIn}

-- ---- tests

pub filter_true : {A : Type 0} (t : A → Bool) (xs : List A) → ((x : A) → IsIn xs x → t x ≡ true) → filter t xs ≡ xs
filter_true t [] each = refl
filter_true {A} t (x ∷ xs) each = rw (each x (inl refl)) (ap (λ (ys : List A). x ∷ ys) (filter_true t xs (λ y i. each y (inr i))))

pub filter_false : {A : Type 0} (t : A → Bool) (xs : List A) → ((x : A) → IsIn xs x → t x ≡ false) → filter t xs ≡ []
filter_false t [] each = refl
filter_false t (x ∷ xs) each = rw (each x (inl refl)) (filter_false t xs (λ y i. each y (inr i)))

pub in_filter : {A : Type 0} (t : A → Bool) (xs : List A) (x : A) → IsIn xs x → t x ≡ true → IsIn (filter t xs) x
in_filter t [] x i e = absurd i
in_filter t (y ∷ ys) x (inl same) e = rw (ap t same ∙ e) (inl same)
in_filter t (y ∷ ys) x (inr i) e = elim (cases_Bool (t y)) [ inl h ↦ rw h (inr (in_filter t ys x i e)) | inr h ↦ rw h (in_filter t ys x i e) ]

pub filter_in : {A : Type 0} (t : A → Bool) (xs : List A) (x : A) → IsIn (filter t xs) x → IsIn xs x × (t x ≡ true)
filter_in t [] x i = absurd i
filter_in t (y ∷ ys) x i = elim (cases_Bool (t y)) [
  | inl h ↦ elim (rw h at i) [ inl same ↦ (inl same, sym (ap t same) ∙ h) | inr j ↦ (let r = filter_in t ys x j in (inr r.0, r.1)) ]
  | inr h ↦ (let r = filter_in t ys x (rw h at i) in (inr r.0, r.1))
]

-- a test before another one, which agrees with a third where the first one holds
pub filter_swap : {A : Type 0} (t u v : A → Bool) (xs : List A) → ((x : A) → t x ≡ true → u x ≡ v x) → filter v (filter t xs) ≡ filter t (filter u xs)
filter_swap t u v [] agree = refl
filter_swap {A} t u v (x ∷ xs) agree =
    let rest = filter_swap t u v xs agree in
    elim (cases_Bool (t x)) [
      | inl h ↦ elim (cases_Bool (u x)) [
        | inl e ↦ (let f = sym (agree x h) ∙ e in rw (h, f, e, h) (ap (λ (ys : List A). x ∷ ys) rest))
        | inr e ↦ (let f = sym (agree x h) ∙ e in rw (h, f, e) rest)
      ]
      | inr h ↦ elim (cases_Bool (u x)) [
        | inl e ↦ rw (h, e, h) rest
        | inr e ↦ rw (h, e) rest
      ]
    ]

pub in_append : {A : Type 0} (xs ys : List A) (x : A) → IsIn (xs ++ ys) x → IsIn xs x ⊎ IsIn ys x
in_append [] ys x i = inr i
in_append (y ∷ xs) ys x (inl e) = inl (inl e)
in_append (y ∷ xs) ys x (inr i) = elim (in_append xs ys x i) [ inl j ↦ inl (inr j) | inr j ↦ inr j ]

pub in_flat_map : {A B : Type 0} (f : A → List B) (xs : List A) (y : B) → IsIn (flat_map f xs) y → (x : A) × IsIn xs x × IsIn (f x) y
in_flat_map f [] y i = absurd i
in_flat_map f (x ∷ xs) y i = elim (in_append (f x) (flat_map f xs) y i) [
  | inl j ↦ (x, inl refl, j)
  | inr j ↦ (let r = in_flat_map f xs y j in (r.0, inr r.1, r.2))
]

-- ---- the better of classes

pub better_rotates : (a b c : Class) → better (better a b) c ≡ better (better a c) b
better_rotates a b c =
    let e1 = level-better (better a b) c in let e2 = level-better a b in
    let e3 = level-better (better a c) b in let e4 = level-better a c in
    level-injective _ _ (omega (arith, e1, e2, e3, e4))

pub better_joins : (a b c : Class) → better a (better b c) ≡ better (better a b) c
better_joins a b c =
    let e1 = level-better a (better b c) in let e2 = level-better b c in
    let e3 = level-better (better a b) c in let e4 = level-better a b in
    level-injective _ _ (omega (arith, e1, e2, e3, e4))

pub better_turns : (a b : Class) → better a b ≡ better b a
better_turns a b = let e1 = level-better a b in let e2 = level-better b a in level-injective _ _ (omega (arith, e1, e2))

pub better_loss : (k : Class) → better k Loss ≡ k
better_loss Loss = refl
better_loss BlessedLoss = refl
better_loss Draw = refl
better_loss CursedWin = refl
better_loss Win = refl

-- the best of a list is that of the elements that fail a test and of those that pass it
pub best_by_test : {A : Type 0} (t : A → Bool) (f : A → Class) (xs : List A) →
    best_after (map f xs) ≡ better (best_after (map f (filter (λ x. not (t x)) xs))) (best_after (map f (filter t xs)))
best_by_test t f [] = refl
best_by_test t f (x ∷ xs) =
    let rest = best_by_test t f xs in
    let fails = best_after (map f (filter (λ y. not (t y)) xs)) in
    let passes = best_after (map f (filter t xs)) in
    let k = negate (f x) in
    elim (cases_Bool (t x)) [
      | inl h ↦ rw h (ap (better k) rest ∙ better_joins k fails passes ∙ better_moves k fails passes)
      | inr h ↦ rw h (ap (better k) rest ∙ better_joins k fails passes)
    ]
  where
    better_moves : (a b c : Class) → better (better a b) c ≡ better b (better a c)
    better_moves a b c =
        let e1 = level-better (better a b) c in let e2 = level-better a b in
        let e3 = level-better b (better a c) in let e4 = level-better a c in
        level-injective _ _ (omega (arith, e1, e2, e3, e4))
