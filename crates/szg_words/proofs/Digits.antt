-- The number of decimal digits.
use Rattle.std.proofs.Common.{◌≡◌, ◌<◌, ◌^◌, Bool, true, false, ℕ, List, [], ◌∷◌, length, suc, Result, Ok, Err, refl, sym, ap, ◌∙◌}
use Rattle.std.proofs.lemmas.Bool.{le-leb, leb-true}
use Rattle.std.proofs.lemmas.Str.Parse.{numerals_by_value, parse_digits, tells_all_ascii_digits}
use Rattle.std.specs.Char.{is_ascii_digit}
use Rattle.std.specs.List.{list_all}
use Rattle.std.specs.Prelude.{Some, None, nat_lt, ◌&&◌, if◌then◌else◌}
use Rattle.std.specs.Result.{OkIff, result_ok}
use Rattle.std.specs.Str.{all_ascii_digits}
use Rattle.std.specs.Str.Parse.{ParsesUnsigned, digits_value}
use Rattle.szg_words.specs.Words.{parsed_number}

other : (a b : Bool) (n : ℕ) → (if a && (false && b) then Some n else None) ≡ None
other true b n = refl
other false b n = refl

-- a byte is no digit
pub number_of_other : (text : List ℕ) → list_all is_ascii_digit text ≡ false → parsed_number text ≡ None
unfolding parsed_number
number_of_other text is = rw (is) (other (nat_lt 0 (length text)) (nat_lt (digits_value 10 text) (2 ^ 64)) (digits_value 10 text))

same : (text : List ℕ) → list_all is_ascii_digit text ≡ all_ascii_digits text
same [] = refl
same (c ∷ cs) = ap (λ (b : Bool). is_ascii_digit c && b) (same cs)

refused : (a b : Bool) (n : ℕ) → (a ≡ true → b ≡ true → ⊥) → None ≡ (if a && (true && b) then Some n else None)
refused true true n both = absurd (both refl refl)
refused true false n both = refl
refused false b n both = refl

by_value : {E : Type 0} (count n : ℕ) (r : Result ℕ E) → OkIff r ((0 < count) × (n < 2 ^ 64)) n → result_ok r ≡ (if nat_lt 0 count && (true && nat_lt n (2 ^ 64)) then Some n else None)
by_value count n (Ok x) h = rw (le-leb 1 count h.0.0, le-leb (suc n) (2 ^ 64) h.0.1) (ap (λ (k : ℕ). Some k) h.1)
by_value count n (Err e) h = refused (nat_lt 0 count) (nat_lt n (2 ^ 64)) n (λ some below. h (leb-true 1 count some, leb-true (suc n) (2 ^ 64) below))

-- each byte is one: the number is what `parse` reads
pub number_of_digits : {E : Type 0} (text : List ℕ) (r : Result ℕ E) → list_all is_ascii_digit text ≡ true → ParsesUnsigned 64 10 text r → result_ok r ≡ parsed_number text
unfolding parsed_number
number_of_digits text r digits parsed =
    rw (digits) (by_value (length text) (digits_value 10 text) r (parse_digits (numerals_by_value (λ ds. all_ascii_digits ds ≡ true) tells_all_ascii_digits) 64 text r parsed (sym (same text) ∙ digits)))
