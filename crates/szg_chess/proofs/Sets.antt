-- Sets of squares, bit by bit.
use Rattle.std.proofs.Common.{◌≡◌, ℕ, ◌+◌, ◌-◌, ◌*◌, ◌%◌, ◌^◌, ◌<◌, ◌≤◌, zero, suc, refl, sym, ap, ◌∙◌, Bool, true, false, arith, inl, inr, w64}
use Rattle.std.specs.Prelude.{not, ◌&&◌, ◌||◌, ◌==◌, ◌/◌, nat_lt, if◌then◌else◌}
use Rattle.std.specs.Int.{bit_at, bit_not, trailing_zeros}
use Rattle.std.specs.Int.Bits.{bit_and, bit_or}
use Rattle.std.proofs.Math.Nat.{pow-suc, eq-or-lt_of_le, div-le_self, lt_of_le_of_lt}
use Rattle.std.proofs.lemmas.Bool.{cases_Bool, eq-eqb, eqb-true, eqb-false, ltb-true, ltb-false}
use Rattle.std.proofs.lemmas.Nat.Bits.{bit_at_set_same, bit_at_set_other, bit_at_clear_same, bit_at_clear_other, bit_at-lt, bit_at_cat_low, bit_at_cat_high, bit_at-zero, bit_at_above, bit_at-trailing_zeros, same_from_bits_below}
use Rattle.std.proofs.lemmas.Nat.{shr-shr}
use Rattle.szg_chess.specs.Squares.{is_in, set_below}

pub same_bool : (a b : Bool) → (a ≡ true → b ≡ true) → (b ≡ true → a ≡ true) → a ≡ b
same_bool true b there back = sym (there refl)
same_bool false true there back = back refl
same_bool false false there back = refl

digit : Bool → ℕ
digit b = if b then 1 else 0

scaled : (b : Bool) (k : ℕ) → (if b then k else 0) ≡ digit b * k
unfolding digit
scaled true k = omega arith
scaled false k = omega arith

digit_bit : (b : Bool) → bit_at (digit b) 0 ≡ digit b
unfolding digit
digit_bit true = refl
digit_bit false = refl

digit_small : (b : Bool) → digit b ≤ 1
unfolding digit
digit_small true = omega arith
digit_small false = omega arith

split : (test : ℕ → Bool) (n : ℕ) → set_below test (suc n) ≡ digit (test n) * 2 ^ n + set_below test n
unfolding set_below
split test n = ap (λ (k : ℕ). k + set_below test n) (scaled (test n) (2 ^ n))

pub set_small : (test : ℕ → Bool) (n : ℕ) → set_below test n < 2 ^ n
unfolding set_below
set_small test zero = omega arith
set_small test (suc n) =
    let low = set_small test n in let double = pow-suc 2 n in
    elim (cases_Bool (test n)) [ inl t ↦ rw t (omega (arith, low, double)) | inr f ↦ rw f (omega (arith, low, double)) ]

bit_of : (test : ℕ → Bool) (n q : ℕ) → q < n → bit_at (set_below test n) q ≡ digit (test q)
bit_of test zero q h = absurd (omega arith)
bit_of test (suc n) q h =
    let le : q ≤ n = omega arith in
    elim (eq-or-lt_of_le le) [
      | inl same ↦
          let base : n + 0 ≡ q = omega (arith, same) in let none : q - n ≡ 0 = omega (arith, same) in
          let from : n ≤ q = omega (arith, same) in
          ap (λ (k : ℕ). bit_at k q) (split test n) ∙ bit_at_cat_high (digit (test n)) n (set_below test n) q (set_small test n) from
          ∙ ap (bit_at (digit (test n))) none ∙ digit_bit (test n) ∙ ap (λ (k : ℕ). digit (test k)) (sym same)
      | inr less ↦ ap (λ (k : ℕ). bit_at k q) (split test n) ∙ bit_at_cat_low (digit (test n)) n (set_below test n) q less ∙ bit_of test n q less
    ]

digit_is : (b : Bool) → (digit b == 1) ≡ b
unfolding digit
digit_is true = refl
digit_is false = refl

-- a square below 64 is in the set if it passes the test
pub in_set : (test : ℕ → Bool) (q : ℕ) → q < 64 → is_in (set_below test 64) q ≡ test q
in_set test q h = ap (λ (k : ℕ). k == 1) (bit_of test 64 q h) ∙ digit_is (test q)

same_digit : (a b : ℕ) → a < 2 → b < 2 → (a == 1) ≡ (b == 1) → a ≡ b
same_digit a b few fewer e = elim (cases_Bool (a == 1)) [
  | inl t ↦ eqb-true a 1 t ∙ sym (eqb-true b 1 (sym e ∙ t))
  | inr f ↦ let not_one : (k : ℕ) → k < 2 → (k == 1) ≡ false → k ≡ 0 = λ k small other. zero_of k small other in not_one a few f ∙ sym (not_one b fewer (sym e ∙ f))
]
  where
    zero_of : (k : ℕ) → k < 2 → (k == 1) ≡ false → k ≡ 0
    zero_of zero small other = refl
    zero_of (suc zero) small other = cc
    zero_of (suc (suc k)) small other = absurd (omega (arith, small))

-- a set is known by its squares
pub from_squares : (test : ℕ → Bool) (squares : ℕ) → squares < 2 ^ 64 → ((q : ℕ) → q < 64 → is_in squares q ≡ test q) → squares ≡ set_below test 64
from_squares test squares small each = same_from_bits_below 64 squares (set_below test 64) small (set_small test 64)
    (λ q h. same_digit (bit_at squares q) (bit_at (set_below test 64) q) (bit_at-lt squares q) (bit_at-lt (set_below test 64) q) (each q h ∙ sym (in_set test q h)))

pub in_bit : (squares q : ℕ) → is_in squares q ≡ true → bit_at squares q ≡ 1
in_bit squares q e = eqb-true (bit_at squares q) 1 e

pub no_bit : (squares q : ℕ) → is_in squares q ≡ false → bit_at squares q ≡ 0
no_bit squares q e = same_digit (bit_at squares q) 0 (bit_at-lt squares q) (omega arith) e

-- ---- a set with a square more, or less

and_true : (b : Bool) → b ≡ (b && true)
and_true true = refl
and_true false = refl

and_false : (b : Bool) → false ≡ (b && false)
and_false true = refl
and_false false = refl

or_true : (b : Bool) → true ≡ (b || true)
or_true true = refl
or_true false = refl

or_false : (b : Bool) → b ≡ (b || false)
or_false true = refl
or_false false = refl

pub cleared : (squares k q : ℕ) → k < 64 → q < 64 → is_in (bit_and squares (bit_not w64 (1 * 2 ^ k % 2 ^ 64))) q ≡ (is_in squares q && not (q == k))
cleared squares k q h inside = elim (cases_Bool (q == k)) [
  | inl t ↦
      let same = eqb-true q k t in
      rw t (ap (λ (i : ℕ). is_in (bit_and squares (bit_not w64 (1 * 2 ^ k % 2 ^ 64))) i) same ∙ ap (λ (n : ℕ). n == 1) (bit_at_clear_same w64 squares k h) ∙ and_false (is_in squares q))
  | inr f ↦ rw f (ap (λ (n : ℕ). n == 1) (bit_at_clear_other w64 squares k h q inside (eqb-false q k f)) ∙ and_true (is_in squares q))
]

pub added : (squares k q : ℕ) → k < 64 → is_in (bit_or squares (1 * 2 ^ k % 2 ^ 64)) q ≡ (is_in squares q || q == k)
added squares k q h = elim (cases_Bool (q == k)) [
  | inl t ↦
      let same = eqb-true q k t in
      rw t (ap (λ (i : ℕ). is_in (bit_or squares (1 * 2 ^ k % 2 ^ 64)) i) same ∙ ap (λ (n : ℕ). n == 1) (bit_at_set_same w64 squares k h) ∙ or_true (is_in squares q))
  | inr f ↦ rw f (ap (λ (n : ℕ). n == 1) (bit_at_set_other w64 squares k h q (eqb-false q k f)) ∙ or_false (is_in squares q))
]

pub turned : (a b : ℕ) → (a == b) ≡ (b == a)
turned a b = same_bool (a == b) (b == a) (λ e. eq-eqb b a (sym (eqb-true a b e))) (λ e. eq-eqb a b (sym (eqb-true b a e)))

-- ---- the first square of a set from one on

pub shifted : (squares from q : ℕ) → from ≤ q → bit_at squares q ≡ bit_at (squares / 2 ^ from) (q - from)
shifted squares from q h =
    let e : q ≡ from + (q - from) = omega (arith, h) in
    ap (λ (k : ℕ). squares / 2 ^ k % 2) e ∙ ap (λ (k : ℕ). k % 2) (sym (shr-shr squares from (q - from)))

pub rest_empty : (squares from q : ℕ) → from ≤ q → squares / 2 ^ from ≡ 0 → is_in squares q ≡ false
rest_empty squares from q h none = ap (λ (k : ℕ). k == 1) (shifted squares from q h ∙ ap (λ (k : ℕ). bit_at k (q - from)) none ∙ bit_at-zero (q - from))

pub rest_first : (squares from q : ℕ) → squares < 2 ^ 64 → 0 < squares / 2 ^ from → from ≤ q → q < from + trailing_zeros w64 (squares / 2 ^ from) → is_in squares q ≡ false
rest_first squares from q small some h before =
    let lowest = bit_at-trailing_zeros w64 (squares / 2 ^ from) some (lt_of_le_of_lt (div-le_self squares (2 ^ from)) small) in
    ap (λ (k : ℕ). k == 1) (shifted squares from q h ∙ lowest.2 (q - from) (omega (arith, h, before)))

pub rest_within : (squares from : ℕ) → squares < 2 ^ 64 → 0 < squares / 2 ^ from → from + trailing_zeros w64 (squares / 2 ^ from) < 64
rest_within squares from small some =
    let rest = squares / 2 ^ from in let k = trailing_zeros w64 rest in
    let lowest = bit_at-trailing_zeros w64 rest some (lt_of_le_of_lt (div-le_self squares (2 ^ from)) small) in
    elim (cases_Bool (nat_lt (from + k) 64)) [
      | inl t ↦ ltb-true (from + k) 64 t
      | inr f ↦
          let back : (from + k) - from ≡ k = omega arith in
          let zero_bit = sym (bit_at_above squares 64 (from + k) small (ltb-false (from + k) 64 f)) ∙ shifted squares from (from + k) (omega arith) ∙ ap (bit_at rest) back ∙ lowest.1 in
          absurd (omega (arith, zero_bit))
    ]

-- the first square of the rest is in the set
pub rest_found : (squares from : ℕ) → squares < 2 ^ 64 → 0 < squares / 2 ^ from → is_in squares (from + trailing_zeros w64 (squares / 2 ^ from)) ≡ true
rest_found squares from small some =
    let rest = squares / 2 ^ from in let k = trailing_zeros w64 rest in
    let lowest = bit_at-trailing_zeros w64 rest some (lt_of_le_of_lt (div-le_self squares (2 ^ from)) small) in
    let back : (from + k) - from ≡ k = omega arith in
    ap (λ (bit : ℕ). bit == 1) (shifted squares from (from + k) (omega arith) ∙ ap (bit_at rest) back ∙ lowest.1)
