use Rattle.std.proofs.Common.{◌≡◌, ℕ, ◌+◌, ◌-◌, ◌*◌, ◌^◌, ◌<◌, ◌≤◌, List, [], ◌∷◌, length, get_or, take, Bool, true, inl, inr, arith}
use Rattle.std.specs.Prelude.{◌&&◌, nat_le}
use Rattle.std.specs.List.{list_all}
use Rattle.std.specs.Char.{digit_value}
use Rattle.std.specs.Str.Parse.{digits_value, AllDigits}
use Rattle.std.proofs.Math.Nat.{pow-le-pow_right}
use Rattle.std.proofs.lemmas.Bool.{cases_Bool, and_parts, leb-true}
use Rattle.std.proofs.lemmas.Int.Digits.{digits_value-lt, digits_value_more}
use Rattle.std.proofs.lemmas.Str.Parse.{digits_value-take-le}
use Rattle.std.proofs.lemmas.List.Folds.{list_all_at}
use Rattle.szg_chess.specs.Fen.{is_number}
use Rattle.szg_chess.proofs.fen.number_of.Goals as goal

abbrev is_digit : ℕ → Bool
is_digit c = nat_le 48 c && nat_le c 57

digit_is : (c : ℕ) → 48 ≤ c → c ≤ 57 → digit_value c ≡ c - 48
digit_is c low high = grind (arith, low, high)

between : (c : ℕ) → is_digit c ≡ true → (48 ≤ c) × (c ≤ 57)
between c e = let both = and_parts (nat_le 48 c) (nat_le c 57) e in (leb-true 48 c both.0, leb-true c 57 both.1)

all_digits : (text : List ℕ) → list_all is_digit text ≡ true → AllDigits 10 text
all_digits [] e = tt
all_digits (c ∷ text) e =
    let both = and_parts (is_digit c) (list_all is_digit text) e in
    let range = between c both.0 in let value = digit_is c range.0 range.1 in
    (omega (arith, range.1, value), all_digits text both.1)

digit_at : (text : List ℕ) (i : ℕ) → i < length text → list_all is_digit text ≡ true → is_digit (get_or text i 0) ≡ true
digit_at text i within e = elim (cases_Bool (is_digit (get_or text i 0))) [
  | inl t ↦ t
  | inr f ↦ let no = list_all_at is_digit text i 0 within f in absurd cc
]

record IsNumber (text : List ℕ) : Type 0 where
  pub digits : list_all is_digit text ≡ true
  pub small : digits_value 10 text < 1000000000

number : (text : List ℕ) → is_number text ≡ true → IsNumber text
number text e =
    let both = and_parts (nat_le 1 (length text) && nat_le (length text) 9) (list_all is_digit text) e in
    let short = leb-true (length text) 9 (and_parts (nat_le 1 (length text)) (nat_le (length text) 9) both.0).1 in
    let value = digits_value-lt 10 text (all_digits text both.1) in
    let most : 10 ^ length text ≤ 10 ^ 9 = pow-le-pow_right (omega arith) short in
    record { digits = both.1; small = omega (arith, value, most) }

-- one more digit
record IsStep (text : List ℕ) (i : ℕ) : Type 0 where
  pub low : 48 ≤ get_or text i 0
  pub value : digits_value 10 (take (i + 1) text) ≡ digits_value 10 (take i text) * 10 + (get_or text i 0 - 48)
  pub small : digits_value 10 (take (i + 1) text) < 1000000000

step : (text : List ℕ) (i : ℕ) → i < length text → is_number text ≡ true → IsStep text i
step text i within e =
    let known = number text e in
    let range = between (get_or text i 0) (digit_at text i within known.digits) in
    let digit = digit_is (get_or text i 0) range.0 range.1 in
    let more = digits_value_more 10 text i within in
    let le = digits_value-take-le 10 text (i + 1) (omega arith) in
    let most = known.small in
    record { low = range.0; value = omega (arith, more, digit); small = omega (arith, le, most) }

pub overflow_mul-number : goal.overflow_mul-number
overflow_mul-number c = let s = step c.args.text.now c.loop-byte.byte-index c.loop-byte-test.true c.requires in let v = s.value in let l = s.small in let h = c.loop-byte.invariant in omega (arith, v, l, h)

pub overflow_add-number : goal.overflow_add-number
overflow_add-number c = let s = step c.args.text.now c.loop-byte.byte-index c.loop-byte-test.true c.requires in let v = s.value in let l = s.small in let h = c.loop-byte.invariant in omega (arith, v, l, h)

pub loop-byte-preserved : goal.loop-byte-preserved
loop-byte-preserved c = let s = step c.args.text.now c.loop-byte.byte-index c.loop-byte-test.true c.requires in let v = s.value in let l = s.low in let h = c.loop-byte.invariant in omega (arith, v, l, h)
