-- When a word is lower-case hexadecimal text.
use Rattle.std.proofs.Common.{◌≡◌, ℕ, zero, suc, ◌+◌, ◌*◌, ◌/◌, ◌%◌, ◌<◌, ◌≤◌, Bool, true, false, List, [], ◌∷◌, length, refl, sym, ap, ◌∙◌, arith, inl, inr, Some, None, Ok, Err}
use Rattle.std.specs.Prelude.{bytes_eq, Result, MatchResult, if◌then◌else◌}
use Rattle.std.proofs.lemmas.Bool.{eqb-true, cases_lt}
use Rattle.std.proofs.lemmas.List.{get_or_past}
use Rattle.std.proofs.lemmas.Slice.Eq.{bytes_eq-Decides}
use Rattle.hex.specs.Hex.{encode_with, encode_lower, lower_digits, decode_sized, IsBytes}
use Rattle.hex.specs.declared.error.FromHexError.{FromHexError}
use Rattle.hex.proofs.HexLemmas.{decode_sized-encode_lower, length-encode_with}
use Rattle.szg_file.specs.Accepted.{AreNumbers}
use Rattle.szg_build.specs.Grammar.{digit_number, digit_bytes, bytes_in}
use Rattle.szg_build.proofs.Texts.Words.{digit_of, digit_parsed, low_digit, bytes_in-encode}

digit_back : (d : ℕ) → d < 16 → digit_number (digit_of d) ≡ d
digit_back d l = eqb-true (digit_number (digit_of d)) d (digit_parsed d l)

no_digit : (d : ℕ) → 16 ≤ d → digit_number (digit_of d) ≡ 0
no_digit d l = ap digit_number (get_or_past lower_digits d 0 l)

-- a number that equals the value of its own two digits is a byte
parsed_byte : (b : ℕ) → b ≡ 16 * digit_number (digit_of (b / 16)) + digit_number (digit_of (b % 16)) → b < 256
parsed_byte b e = elim (cases_lt (b / 16) 16) [
  | inl low ↦ omega (arith, low)
  | inr high ↦ omega (arith, e, no_digit (b / 16) high, digit_back (b % 16) (low_digit b))
]

byte_more : (b : ℕ) (bytes : List ℕ) → b < 256 → IsBytes bytes → IsBytes (b ∷ bytes)
byte_more b bytes l h zero = l
byte_more b bytes l h (suc i) = h i

-- if the bytes decoded from a word have the word as their hexadecimal text, they are bytes
spelled_bytes : (word : List ℕ) → encode_lower (digit_bytes word) ≡ word → IsBytes (digit_bytes word)
unfolding encode_with
spelled_bytes [] e = λ i. omega arith
spelled_bytes (digit ∷ []) e = λ i. omega arith
spelled_bytes (high ∷ low ∷ digits) e =
    let b : ℕ = 16 * digit_number high + digit_number low in
    let first : digit_of (b / 16) ≡ high = cc e in
    let second : digit_of (b % 16) ≡ low = cc e in
    let others : encode_lower (digit_bytes digits) ≡ digits = cc e in
    byte_more b (digit_bytes digits) (parsed_byte b (omega (arith, ap digit_number first, ap digit_number second))) (spelled_bytes digits others)

unless_spelled : {A : Type 0} (b : Bool) (x : A) → (b ≡ true → ⊥) → (if b then Some x else None) ≡ None
unless_spelled true x never = absurd (never refl)
unless_spelled false x never = refl

-- if the bytes decoded from a word have the word as their hexadecimal text, the word is decoded to them
pub spelled_decodes : (word : List ℕ) → encode_lower (digit_bytes word) ≡ word → decode_sized word (length word / 2) ≡ Ok (digit_bytes word)
spelled_decodes word e =
    let bytes = digit_bytes word in
    let long : length word ≡ 2 * length bytes = ap length (sym e) ∙ length-encode_with lower_digits bytes in
    let half : length bytes ≡ length word / 2 = omega (arith, long) in
    ap (λ (z : List ℕ). decode_sized z (length word / 2)) (sym e) ∙ decode_sized-encode_lower bytes (length word / 2) half (spelled_bytes word e)

none_when : (word : List ℕ) → (encode_lower (digit_bytes word) ≡ word → ⊥) → bytes_in word ≡ None
none_when word never = unless_spelled (bytes_eq (encode_lower (digit_bytes word)) word) (digit_bytes word) (λ e. never ((bytes_eq-Decides (encode_lower (digit_bytes word)) word).0 e))

pub none_undecoded : (word : List ℕ) (e : FromHexError) → decode_sized word (length word / 2) ≡ Err e → bytes_in word ≡ None
none_undecoded word e h = none_when word (λ s. let both = sym (spelled_decodes word s) ∙ h in cc both)

pub none_unspelled : (word bytes : List ℕ) → decode_sized word (length word / 2) ≡ Ok bytes → (encode_lower bytes ≡ word → ⊥) → bytes_in word ≡ None
none_unspelled word bytes h never = none_when word (λ s.
    let both : Ok (digit_bytes word) ≡ Ok bytes = sym (spelled_decodes word s) ∙ h in
    let same : digit_bytes word ≡ bytes = cc both in
    never (ap encode_lower (sym same) ∙ s))

pub some_spelled : (word bytes : List ℕ) → AreNumbers 1 bytes → encode_lower bytes ≡ word → bytes_in word ≡ Some bytes
some_spelled word bytes h e = ap bytes_in (sym e) ∙ bytes_in-encode bytes h

decoded_ok : (d : Result (List ℕ) FromHexError) (r : Result (Unit {0}) FromHexError) (bytes : List ℕ) → MatchResult d (λ stated. (r ≡ Ok tt) × (bytes ≡ stated)) (λ e. r ≡ Err e) → r ≡ Ok tt → d ≡ Ok bytes
decoded_ok (Ok stated) r bytes h is = ap (λ (z : List ℕ). Ok z) (sym h.1)
decoded_ok (Err e) r bytes h is = let both = sym h ∙ is in cc both

decoded_err : (d : Result (List ℕ) FromHexError) (r : Result (Unit {0}) FromHexError) (bytes : List ℕ) (e : FromHexError) → MatchResult d (λ stated. (r ≡ Ok tt) × (bytes ≡ stated)) (λ e. r ≡ Err e) → r ≡ Err e → d ≡ Err e
decoded_err (Ok stated) r bytes e h is = let both = sym h.0 ∙ is in cc both
decoded_err (Err f) r bytes e h is = let both = sym h ∙ is in let same : f ≡ e = cc both in ap (λ (z : FromHexError). Err z) same

pub none_refused : (word bytes : List ℕ) (k : ℕ) (r : Result (Unit {0}) FromHexError) (e : FromHexError) → k ≡ length word / 2 →
    MatchResult (decode_sized word k) (λ stated. (r ≡ Ok tt) × (bytes ≡ stated)) (λ e. r ≡ Err e) → r ≡ Err e → bytes_in word ≡ None
none_refused word bytes k r e half h is = none_undecoded word e (ap (decode_sized word) (sym half) ∙ decoded_err (decode_sized word k) r bytes e h is)

pub none_otherwise : (word bytes : List ℕ) (k : ℕ) (r : Result (Unit {0}) FromHexError) → k ≡ length word / 2 →
    MatchResult (decode_sized word k) (λ stated. (r ≡ Ok tt) × (bytes ≡ stated)) (λ e. r ≡ Err e) → r ≡ Ok tt → bytes_eq (encode_lower bytes) word ≡ false → bytes_in word ≡ None
none_otherwise word bytes k r half h is other = none_unspelled word bytes (ap (decode_sized word) (sym half) ∙ decoded_ok (decode_sized word k) r bytes h is)
    (λ e. let yes : bytes_eq (encode_lower bytes) word ≡ true = (bytes_eq-Decides (encode_lower bytes) word).1 e in cc)

pub some_parsed : (word bytes : List ℕ) → AreNumbers 1 bytes → bytes_eq (encode_lower bytes) word ≡ true → bytes_in word ≡ Some bytes
some_parsed word bytes h e = some_spelled word bytes h ((bytes_eq-Decides (encode_lower bytes) word).0 e)
