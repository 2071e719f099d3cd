-- The squares on which a man may not stand.
use Rattle.std.proofs.Common.{◌≡◌, ◌≢◌, ℕ, ◌*◌, ◌/◌, ◌%◌, ◌^◌, ◌<◌, ◌≤◌, w64, refl, sym, ap, ◌∙◌, Bool, true, false, inl, inr, arith, suc, zero}
use Rattle.std.specs.Prelude.{◌==◌, ◌&&◌, ◌||◌, slice_index, max}
use Rattle.std.specs.Int.{bit_at}
use Rattle.std.specs.Int.Bits.{bit_and, bit_or}
use Rattle.std.proofs.Math.Nat.{eq-or-lt_of_le}
use Rattle.std.proofs.lemmas.Bool.{and_parts}
use Rattle.std.proofs.lemmas.Bool.Decides.{nat_tests}
use Rattle.std.proofs.lemmas.Nat.Bits.{bit_at_or, bit_at-lt, bit_at-zero, bit_at_set_same, bit_at_set_other, shr_and_one}
use Rattle.szg_values.specs.Men.{code_of, rank_of}
use Rattle.szg_values.specs.Placement.{is_barred, is_taken}
use Rattle.szg_values.specs.declared.Man.{Man}
use Rattle.szg_values.specs.declared.Man.TheVariants.{Pawn, Knight, Bishop, Rook, Queen, King}
use Rattle.szg_values.specs.declared.placements.TheConstants.{BARRED}

abbrev all_below : (ℕ → Bool) → ℕ → Bool
all_below test zero = true
all_below test (suc n) = test n && all_below test n

tested : (test : ℕ → Bool) (n x : ℕ) → all_below test n ≡ true → x < n → test x ≡ true
tested test zero x e h = absurd (omega arith)
tested test (suc n) x e h =
    let p = and_parts (test n) (all_below test n) e in
    let le : x ≤ n = omega arith in
    elim (eq-or-lt_of_le le) [
      | inl same ↦ ap test same ∙ p.0
      | inr less ↦ tested test n x p.1 less
    ]

same : Bool → Bool → Bool
same true b = b
same false true = false
same false false = true

same_told : (a b : Bool) → same a b ≡ true → a ≡ b
unfolding same
same_told true b e = sym e
same_told false true e = cc
same_told false false e = refl

is_row : ℕ → Bool
is_row square = same (bit_at 18374686479671623935 square == 1) (rank_of square == 0 || rank_of square == 7)

row_test : all_below is_row 64 ≡ true
unfolding is_row same
row_test = refl

pub barred_told : (man : Man) (square : ℕ) → square < 64 → is_taken (slice_index BARRED (code_of man)) square ≡ is_barred man square
unfolding is_row
barred_told Pawn square h = same_told (bit_at 18374686479671623935 square == 1) (rank_of square == 0 || rank_of square == 7) (tested is_row 64 square row_test h)
barred_told Knight square h = ap (λ (n : ℕ). n == 1) (bit_at-zero square)
barred_told Bishop square h = ap (λ (n : ℕ). n == 1) (bit_at-zero square)
barred_told Rook square h = ap (λ (n : ℕ). n == 1) (bit_at-zero square)
barred_told Queen square h = ap (λ (n : ℕ). n == 1) (bit_at-zero square)
barred_told King square h = ap (λ (n : ℕ). n == 1) (bit_at-zero square)

either : (a b : ℕ) → a < 2 → b < 2 → (max a b == 1) ≡ (a == 1 || b == 1)
either zero zero h k = refl
either zero (suc zero) h k = refl
either zero (suc (suc b)) h k = absurd (omega (arith, k))
either (suc zero) zero h k = refl
either (suc zero) (suc zero) h k = refl
either (suc zero) (suc (suc b)) h k = absurd (omega (arith, k))
either (suc (suc a)) b h k = absurd (omega (arith, h))

-- a square that is taken by either of two
pub taken_by : (a b square : ℕ) → is_taken (bit_or a b) square ≡ (is_taken a square || is_taken b square)
taken_by a b square = ap (λ (n : ℕ). n == 1) (bit_at_or a b square) ∙ either (bit_at a square) (bit_at b square) (bit_at-lt a square) (bit_at-lt b square)

pub is_other : (n : ℕ) → n ≢ 1 → (n == 1) ≡ false
is_other n h = grind (arith, nat_tests)

-- ---- putting a man on a square, as the code does it

module _ (taken square number : ℕ) (same : number ≡ square) (below : square < 64) where
  pub closed_told : (man : Man) (code : ℕ) → code ≡ code_of man → (bit_and (bit_or taken (slice_index BARRED code) / 2 ^ number) 1 == 1) ≡ (is_taken taken square || is_barred man square)
  closed_told man code e = rw (same, e) (ap (λ (n : ℕ). n == 1) (shr_and_one (bit_or taken (slice_index BARRED (code_of man))) square)
      ∙ taken_by taken (slice_index BARRED (code_of man)) square ∙ ap (λ (b : Bool). is_taken taken square || b) (barred_told man square below))

  pub set_same : is_taken (bit_or taken (1 * 2 ^ number % 18446744073709551616)) square ≡ true
  set_same = rw same (ap (λ (n : ℕ). n == 1) (bit_at_set_same w64 taken square below))

  pub set_other : (other : ℕ) → other ≢ square → is_taken (bit_or taken (1 * 2 ^ number % 18446744073709551616)) other ≡ is_taken taken other
  set_other other differs = rw same (ap (λ (n : ℕ). n == 1) (bit_at_set_other w64 taken square below other differs))
