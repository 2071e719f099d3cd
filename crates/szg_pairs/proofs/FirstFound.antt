-- What a search over numbers finds.
use Rattle.std.proofs.Common.{ℕ, zero, suc, Bool, true, false, cond, ◌≡◌, ◌+◌, ◌<◌, ◌≤◌, inl, inr, Some, None, refl, ap, sym, ◌∙◌, arith}
use Rattle.std.specs.List.{find, range_with_len}
use Rattle.std.proofs.lemmas.Bool.{cases_lt}

none_at : (p : ℕ → Bool) (a n : ℕ) → (find p (range_with_len (a + 1) n) ≡ None → (k : ℕ) → a + 1 ≤ k → k < a + 1 + n → p k ≡ false) →
    (b : Bool) → p a ≡ b → cond b (Some a) (find p (range_with_len (a + 1) n)) ≡ None → (k : ℕ) → a ≤ k → k < a + suc n → p k ≡ false
none_at p a n rest true e h k le lt = absurd cc
none_at p a n rest false e h k le lt =
    elim (cases_lt a k) [
      | inl less ↦ rest h k (omega arith) (omega arith)
      | inr more ↦ let same : k ≡ a = omega arith in ap p same ∙ e
    ]

-- nothing is found: no number passes the test
pub find_none : (p : ℕ → Bool) (a n : ℕ) → find p (range_with_len a n) ≡ None → (k : ℕ) → a ≤ k → k < a + n → p k ≡ false
find_none p a zero e = λ k le lt. absurd (omega arith)
find_none p a (suc n) e = none_at p a n (find_none p (a + 1) n) (p a) refl e

-- a search over n numbers from a on finds the first that passes the test
pub record IsFirst (p : ℕ → Bool) (a n j : ℕ) : Type 0 where
  pub from : a ≤ j
  pub below : j < a + n
  pub passes : p j ≡ true
  pub before : (k : ℕ) → a ≤ k → k < j → p k ≡ false

some_at : (p : ℕ → Bool) (a n j : ℕ) → (find p (range_with_len (a + 1) n) ≡ Some j → IsFirst p (a + 1) n j) →
    (b : Bool) → p a ≡ b → cond b (Some a) (find p (range_with_len (a + 1) n)) ≡ Some j → IsFirst p a (suc n) j
some_at p a n j rest true e h =
    let same : a ≡ j = cc in
    record { from = omega arith; below = omega arith; passes = ap p (sym same) ∙ e; before = λ k le lt. absurd (omega arith) }
some_at p a n j rest false e h =
    let r = rest h in
    let from : a + 1 ≤ j = r.from in
    let below : j < a + 1 + n = r.below in
    record {
      from = omega arith;
      below = omega arith;
      passes = r.passes;
      before = λ k le lt. elim (cases_lt a k) [
        | inl less ↦ r.before k (omega arith) lt
        | inr more ↦ let same : k ≡ a = omega arith in ap p same ∙ e
      ];
    }

pub find_some : (p : ℕ → Bool) (a n j : ℕ) → find p (range_with_len a n) ≡ Some j → IsFirst p a n j
find_some p a zero j e = absurd cc
find_some p a (suc n) j e = some_at p a n j (find_some p (a + 1) n j) (p a) refl e
