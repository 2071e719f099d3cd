-- The first line of some bytes, by the offset of the first 0A; and the results of a reader of one line.
use Rattle.std.proofs.Common.{◌≡◌, ℕ, zero, suc, ◌<◌, ◌≤◌, false, List, [], ◌∷◌, length, take, drop, get_or, refl, ap, ◌∙◌, arith, inl, inr}
use Rattle.std.specs.Prelude.{◌==◌}
use Rattle.std.proofs.lemmas.Bool.{eqb-true, eq-eqb}
use Rattle.szg_build.specs.Lines.{whole, long, unended, following, first_line}
use Rattle.szg_build.proofs.Texts.LinesLaws.{bool_cases, newline, long_here, within}

other_byte : (byte : ℕ) → (byte ≡ 10 → ⊥) → (byte == 10) ≡ false
other_byte byte h = elim (bool_cases (byte == 10)) [ inl e ↦ absurd (h (eqb-true byte 10 e)) | inr e ↦ e ]

pub first_line-whole : (room n : ℕ) (bytes : List ℕ) → n ≤ room → n < length bytes → get_or bytes n 0 ≡ 10 → ((k : ℕ) → k < n → get_or bytes k 0 ≡ 10 → ⊥) →
    first_line room bytes ≡ whole (take n bytes) (drop (suc n) bytes)
first_line-whole room n [] fits there here before = absurd (omega (arith, there))
first_line-whole room zero (byte ∷ bytes) fits there here before = newline room byte bytes (eq-eqb byte 10 here)
first_line-whole zero (suc n) (byte ∷ bytes) fits there here before = absurd (omega (arith, fits))
first_line-whole (suc room) (suc n) (byte ∷ bytes) fits there here before =
    within room byte bytes (other_byte byte (before 0 (omega arith)))
    ∙ ap (following byte) (first_line-whole room n bytes (omega (arith, fits)) (omega (arith, there)) here (λ k h. before (suc k) (omega (arith, h))))

pub first_line-long : (room : ℕ) (bytes : List ℕ) → room < length bytes → ((k : ℕ) → k < suc room → k < length bytes → get_or bytes k 0 ≡ 10 → ⊥) →
    first_line room bytes ≡ long (drop (suc room) bytes)
first_line-long room [] more before = absurd (omega (arith, more))
first_line-long zero (byte ∷ bytes) more before = long_here byte bytes (other_byte byte (before 0 (omega arith) (omega arith)))
first_line-long (suc room) (byte ∷ bytes) more before =
    within room byte bytes (other_byte byte (before 0 (omega arith) (omega arith)))
    ∙ ap (following byte) (first_line-long room bytes (omega (arith, more)) (λ k h h'. before (suc k) (omega (arith, h)) (omega (arith, h'))))

pub first_line-unended : (room : ℕ) (bytes : List ℕ) → length bytes ≤ room → ((k : ℕ) → k < suc room → k < length bytes → get_or bytes k 0 ≡ 10 → ⊥) → first_line room bytes ≡ unended
first_line-unended room [] fits before = refl_of room
  where
    refl_of : (n : ℕ) → first_line n [] ≡ unended
    refl_of zero = refl
    refl_of (suc n) = refl
first_line-unended zero (byte ∷ bytes) fits before = absurd (omega (arith, fits))
first_line-unended (suc room) (byte ∷ bytes) fits before =
    within room byte bytes (other_byte byte (before 0 (omega arith) (omega arith)))
    ∙ ap (following byte) (first_line-unended room bytes (omega (arith, fits)) (λ k h h'. before (suc k) (omega (arith, h)) (omega (arith, h'))))
