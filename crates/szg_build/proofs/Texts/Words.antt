-- Numbers, bytes and names as words of a line: what is written is read again, and no word has a space or 0A.
use Rattle.std.proofs.Common.{◌≡◌, ℕ, zero, suc, ◌+◌, ◌*◌, ◌/◌, ◌%◌, ◌^◌, ◌<◌, ◌≤◌, Bool, true, false, not, List, [], ◌∷◌, ◌++◌, length, map, refl, sym, ap, subst, ◌∙◌, arith, inl, inr, length-append, Option, Some, None}
use Rattle.std.specs.Prelude.{◌==◌, ◌&&◌, nat_le, bytes_eq, slice_index, if◌then◌else◌}
use Rattle.std.specs.List.{AllByRecursion}
use Rattle.std.specs.Char.{digit_value}
use Rattle.std.specs.Fmt.{decimal}
use Rattle.std.specs.Str.Parse.{AllDigits}
use Rattle.std.proofs.lemmas.Fmt.{decimal_is_IsNumeral, length-decimal-le}
use Rattle.std.proofs.lemmas.Bool.{eqb-true, eq-eqb, le-leb, cases_lt, not-true, and_parts}
use Rattle.hex.specs.Hex.{encode_with, encode_lower, lower_digits}
use Rattle.szg_values.specs.Material.{Sides, name_of}
use Rattle.szg_values.specs.Men.{letter_of}
use Rattle.szg_values.specs.declared.Man.{Man}
use Rattle.szg_values.specs.declared.Man.TheVariants.{Pawn, Knight, Bishop, Rook, Queen, King}
use Rattle.szg_file.specs.Accepted.{AreNumbers}
use Rattle.szg_build.specs.Text.{spaced}
use Rattle.szg_build.specs.Grammar.{number_in, digit_number, digit_bytes, bytes_in}
use Rattle.szg_build.proofs.Texts.LinesLaws.{bool_cases}
use Rattle.szg_build.proofs.Texts.Spelled.{IsClean, AreClean, IsLine}

pub bytes_eq-same : (xs : List ℕ) → bytes_eq xs xs ≡ true
bytes_eq-same [] = refl
bytes_eq-same (x ∷ xs) = rw (eq-eqb x x refl, bytes_eq-same xs) refl

-- ---- clean words

not_equal : (a b : ℕ) → (a ≡ b → ⊥) → (a == b) ≡ false
not_equal a b h = elim (bool_cases (a == b)) [ inl e ↦ absurd (h (eqb-true a b e)) | inr e ↦ e ]

clean_digit : (c : ℕ) → digit_value c < 10 → IsClean c
clean_digit c h = (
  not_equal c 10 (λ e. let P : ℕ → Type 0 = λ z. digit_value z < 10 in let no : 36 < 10 = subst P e h in omega (arith, no)),
  not_equal c 32 (λ e. let P : ℕ → Type 0 = λ z. digit_value z < 10 in let no : 36 < 10 = subst P e h in omega (arith, no)),
)

clean_digits : (ds : List ℕ) → AllDigits 10 ds → AreClean ds
clean_digits [] h = tt
clean_digits (d ∷ ds) h = (clean_digit d h.0, clean_digits ds h.1)

pub clean_decimal : (n : ℕ) → n < 2 ^ 64 → AreClean (decimal n)
clean_decimal n small = clean_digits (decimal n) (decimal_is_IsNumeral n small).0.1

pub short_decimal : (n : ℕ) → n < 2 ^ 64 → length (decimal n) ≤ 20
short_decimal n small = length-decimal-le 20 n (omega arith) (omega (arith, small)) small

abbrev pub is_clean : ℕ → Bool
is_clean byte = not (byte == 10) && not (byte == 32)

clean_byte : (byte : ℕ) → is_clean byte ≡ true → IsClean byte
clean_byte byte e = (not-true (byte == 10) (and_parts (not (byte == 10)) (not (byte == 32)) e).0, not-true (byte == 32) (and_parts (not (byte == 10)) (not (byte == 32)) e).1)

abbrev pub are_clean : List ℕ → Bool
are_clean [] = true
are_clean (byte ∷ bytes) = is_clean byte && are_clean bytes

pub clean_word : (bytes : List ℕ) → are_clean bytes ≡ true → AreClean bytes
clean_word [] e = tt
clean_word (byte ∷ bytes) e = (clean_byte byte (and_parts (is_clean byte) (are_clean bytes) e).0, clean_word bytes (and_parts (is_clean byte) (are_clean bytes) e).1)

clean_letter : (man : Man) → IsClean (letter_of man)
clean_letter Pawn = (refl, refl)
clean_letter Knight = (refl, refl)
clean_letter Bishop = (refl, refl)
clean_letter Rook = (refl, refl)
clean_letter Queen = (refl, refl)
clean_letter King = (refl, refl)

clean_letters : (men : List Man) → AreClean (map letter_of men)
clean_letters [] = tt
clean_letters (man ∷ men) = (clean_letter man, clean_letters men)

pub clean_append : (xs ys : List ℕ) → AreClean xs → AreClean ys → AreClean (xs ++ ys)
clean_append [] ys h h' = h'
clean_append (x ∷ xs) ys h h' = (h.0, clean_append xs ys h.1 h')

pub clean_name : (material : Sides) → AreClean (name_of material)
clean_name material = clean_append (map letter_of material.first) (118 ∷ map letter_of material.second) (clean_letters material.first) ((refl, refl), clean_letters material.second)

pub clean_part_word : (part : ℕ) → AreClean ((97 + part) ∷ [])
clean_part_word part = ((not_equal (97 + part) 10 (λ e. omega (arith, e)), not_equal (97 + part) 32 (λ e. omega (arith, e))), tt)

-- ---- numbers

pub number_in-decimal : (limit n : ℕ) → n ≤ limit → n < 2 ^ 64 → number_in limit (decimal n) ≡ Some n
number_in-decimal limit n le small =
    let f : ℕ → Option ℕ = λ z. if bytes_eq (decimal z) (decimal n) && nat_le z limit then Some z else None in
    ap f (decimal_is_IsNumeral n small).1
    ∙ rw (bytes_eq-same (decimal n), le-leb n limit le) refl

-- ---- hexadecimal text

all_below : (ℕ → Bool) → ℕ → Bool
all_below p zero = true
all_below p (suc n) = p n && all_below p n

below : (p : ℕ → Bool) (n : ℕ) → all_below p n ≡ true → (d : ℕ) → d < n → p d ≡ true
unfolding all_below
below p zero h d l = absurd (omega (arith, l))
below p (suc n) h d l =
    elim (cases_lt d n) [
      | inl less ↦ below p n (and_parts (p n) (all_below p n) h).1 d less
      | inr more ↦ let e : n ≡ d = omega (arith, l, more) in ap p (sym e) ∙ (and_parts (p n) (all_below p n) h).0
    ]

abbrev pub digit_of : ℕ → ℕ
digit_of d = slice_index lower_digits d

pub digit_parsed : (d : ℕ) → d < 16 → (digit_number (digit_of d) == d) ≡ true
unfolding all_below
digit_parsed d l = below (λ z. digit_number (digit_of z) == z) 16 refl d l

digit_clean : (d : ℕ) → d < 16 → IsClean (digit_of d)
unfolding all_below
digit_clean d l = clean_byte (digit_of d) (below (λ z. is_clean (digit_of z)) 16 refl d l)

high_digit : (b : ℕ) → b < 256 → b / 16 < 16
high_digit b l = omega (arith, l)

pub low_digit : (b : ℕ) → b % 16 < 16
low_digit b = omega arith

pub digit_bytes-encode : (bytes : List ℕ) → AreNumbers 1 bytes → digit_bytes (encode_lower bytes) ≡ bytes
unfolding encode_with
digit_bytes-encode [] h = refl
digit_bytes-encode (b ∷ bytes) h =
    let high : digit_number (digit_of (b / 16)) ≡ b / 16 = eqb-true (digit_number (digit_of (b / 16))) (b / 16) (digit_parsed (b / 16) (high_digit b h.0)) in
    let low : digit_number (digit_of (b % 16)) ≡ b % 16 = eqb-true (digit_number (digit_of (b % 16))) (b % 16) (digit_parsed (b % 16) (low_digit b)) in
    let whole : 16 * digit_number (digit_of (b / 16)) + digit_number (digit_of (b % 16)) ≡ b = omega (arith, high, low) in
    ap (λ (z : ℕ). z ∷ digit_bytes (encode_lower bytes)) whole ∙ ap (λ (z : List ℕ). b ∷ z) (digit_bytes-encode bytes h.1)

pub bytes_in-encode : (bytes : List ℕ) → AreNumbers 1 bytes → bytes_in (encode_lower bytes) ≡ Some bytes
bytes_in-encode bytes h =
    let f : List ℕ → Option (List ℕ) = λ z. if bytes_eq (encode_lower z) (encode_lower bytes) then Some z else None in
    ap f (digit_bytes-encode bytes h) ∙ rw (bytes_eq-same (encode_lower bytes)) refl

pub clean_encode : (bytes : List ℕ) → AreNumbers 1 bytes → AreClean (encode_lower bytes)
unfolding encode_with
clean_encode [] h = tt
clean_encode (b ∷ bytes) h = (digit_clean (b / 16) (high_digit b h.0), (digit_clean (b % 16) (low_digit b), clean_encode bytes h.1))

pub length-encode : (bytes : List ℕ) → length (encode_lower bytes) ≡ 2 * length bytes
unfolding encode_with
length-encode [] = refl
length-encode (b ∷ bytes) = let inner : length (encode_lower bytes) ≡ 2 * length bytes = length-encode bytes in omega (arith, inner)

-- ---- how long a line is

-- the bytes of the words, with one for each space and for the 0A
abbrev pub word_room : List (List ℕ) → ℕ
word_room [] = 0
word_room (word ∷ words) = length word + (1 + word_room words)

length-spaced : (word : List ℕ) (words : List (List ℕ)) → length (spaced (word ∷ words)) + 1 ≡ word_room (word ∷ words)
length-spaced word [] = omega arith
length-spaced word (next ∷ words) =
    let inner : length (spaced (next ∷ words)) + 1 ≡ word_room (next ∷ words) = length-spaced next words in
    let outer : length (word ++ 32 ∷ spaced (next ∷ words)) ≡ length word + length (32 ∷ spaced (next ∷ words)) = length-append word (32 ∷ spaced (next ∷ words)) in
    omega (arith, inner, outer)

pub a_line : (word : List ℕ) (words : List (List ℕ)) → AreClean word → AllByRecursion AreClean words → word_room (word ∷ words) ≤ 81 → IsLine word words
a_line word words first others short =
    record { first = first; others = others; short = let e : length (spaced (word ∷ words)) + 1 ≡ word_room (word ∷ words) = length-spaced word words in omega (arith, e, short) }
