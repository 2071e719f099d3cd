-- When a word is a number.
use Rattle.std.proofs.Common.{◌≡◌, ℕ, zero, suc, ◌<◌, ◌≤◌, ◌^◌, Bool, true, false, List, [], ◌∷◌, ◌++◌, length, length-append, refl, sym, ap, subst, ◌∙◌, arith, Option, Some, None, Ok}
use Rattle.std.specs.Prelude.{◌&&◌, Result, bytes_eq, nat_le, if◌then◌else◌}
use Rattle.std.specs.Fmt.{decimal}
use Rattle.std.specs.Str.Parse.{digits_value, ParsesUnsigned}
use Rattle.std.specs.Str.{IsUtf8}
use Rattle.std.proofs.lemmas.Bool.{leb-true, and_parts}
use Rattle.std.proofs.lemmas.Fmt.{parse-decimal, IsAscii-decimal, decimal_nonempty}
use Rattle.std.proofs.lemmas.Slice.Eq.{bytes_eq-Decides}
use Rattle.std.proofs.lemmas.Str.{IsUtf8-from_ascii}
use Rattle.szg_build.specs.Grammar.{number_in, positive, greatest_count, greatest_item}
use Rattle.szg_build.proofs.Texts.Words.{number_in-decimal}

pub number_there : (limit n : ℕ) (word : List ℕ) → word ≡ decimal n → n ≤ limit → n < 2 ^ 64 → number_in limit word ≡ Some n
number_there limit n word e le small = ap (number_in limit) e ∙ number_in-decimal limit n le small

unless_both : {A : Type 0} (b : Bool) (x : A) → (b ≡ true → ⊥) → (if b then Some x else None) ≡ None
unless_both true x never = absurd (never refl)
unless_both false x never = refl

-- a word that is the decimal text of no number up to the limit
pub number_none : (limit : ℕ) (word : List ℕ) → ((n : ℕ) → n ≤ limit → word ≡ decimal n → ⊥) → number_in limit word ≡ None
number_none limit word never =
    let n = digits_value 10 word in
    unless_both (bytes_eq (decimal n) word && nat_le n limit) n
    (λ e. never n (leb-true n limit (and_parts (bytes_eq (decimal n) word) (nat_le n limit) e).1) (sym ((bytes_eq-Decides (decimal n) word).0 (and_parts (bytes_eq (decimal n) word) (nat_le n limit) e).0)))

pub number_of_no_text : (limit : ℕ) (word : List ℕ) → limit < 2 ^ 64 → (IsUtf8 word → ⊥) → number_in limit word ≡ None
number_of_no_text limit word small never = number_none limit word (λ n le e. never (subst IsUtf8 (sym e) (IsUtf8-from_ascii (decimal n) (IsAscii-decimal n (omega (arith, small, le))))))

parsed_as : {E : Type 0} (n : ℕ) (word : List ℕ) (r : Result ℕ E) → n < 2 ^ 64 → word ≡ decimal n → ParsesUnsigned 64 10 word r → r ≡ Ok n
parsed_as n word r small e h = parse-decimal 64 n word r small small e h

pub number_of_no_digits : {E : Type 0} (limit : ℕ) (word : List ℕ) (r : Result ℕ E) → limit < 2 ^ 64 → ((n : ℕ) → r ≡ Ok n → ⊥) → ParsesUnsigned 64 10 word r → number_in limit word ≡ None
number_of_no_digits limit word r small never h = number_none limit word (λ n le e. never n (parsed_as n word r (omega (arith, small, le)) e h))

pub number_of_another : {E : Type 0} (limit n : ℕ) (word : List ℕ) (r : Result ℕ E) → limit < 2 ^ 64 → r ≡ Ok n → ParsesUnsigned 64 10 word r → (n ≤ limit → word ≡ decimal n → ⊥) → number_in limit word ≡ None
number_of_another limit n word r small is h never = number_none limit word (λ m le e.
    let same : Ok n ≡ Ok m = sym is ∙ parsed_as m word r (omega (arith, small, le)) e h in
    let number : n ≡ m = cc same in
    never (omega (arith, le, number)) (e ∙ ap decimal (sym number)))

-- ---- the length of a run's line

word_there : (limit n : ℕ) (word : List ℕ) → limit < 2 ^ 64 → number_in limit word ≡ Some n → 0 < length word
word_there limit n (byte ∷ word) small e = omega arith
word_there limit n [] small e =
    let none : number_in limit [] ≡ None = number_none limit [] (λ m le e'. absurd (omega (arith, decimal_nonempty m (omega (arith, small, le)), ap length e'))) in
    let no : None ≡ Some n = sym none ∙ e in
    absurd cc

number_there_of : (o : Option ℕ) (n : ℕ) → positive o ≡ Some n → (m : ℕ) × (o ≡ Some m)
number_there_of None n e = absurd cc
number_there_of (Some zero) n e = absurd cc
number_there_of (Some (suc m)) n e = (suc m, refl)

pub run_length : (text first second : List ℕ) (n v : ℕ) → text ≡ [] ++ (first ++ 32 ∷ ([] ++ second)) → positive (number_in greatest_count first) ≡ Some n → number_in greatest_item second ≡ Some v → 3 ≤ length text
run_length text first second n v e is is' =
    let p = number_there_of (number_in greatest_count first) n is in
    omega (arith, ap length e, length-append first (32 ∷ second), word_there greatest_count p.0 first (omega arith) p.1, word_there greatest_item v second (omega arith) is')
