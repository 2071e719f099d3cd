-- A board as text, square by square.
use Rattle.std.proofs.Common.{◌≡◌, ℕ, ◌+◌, ◌*◌, ◌<◌, ◌≤◌, List, [], ◌∷◌, ◌++◌, zero, suc, refl, sym, ap, ◌∙◌, true, false, arith, Option, Some, None, append_assoc}
use Rattle.std.specs.Prelude.{◌==◌, nat_le, IfSome}
use Rattle.std.proofs.lemmas.Bool.{and_from, le-leb, ne_eqb}
use Rattle.std.proofs.lemmas.List.{append-nil}
use Rattle.szg_values.specs.Placement.{PlacedMan}
use Rattle.szg_values.specs.declared.Man.{Man}
use Rattle.szg_values.specs.declared.Man.TheVariants.{Pawn, Knight, Bishop, Rook, Queen, King}
use Rattle.szg_values.specs.declared.Color.{Color}
use Rattle.szg_values.specs.declared.Color.TheVariants.{White, Black}
use Rattle.szg_chess.specs.Position.{man_on}
use Rattle.szg_chess.specs.Fen.{is_gap, letter_of_man, after_empty, after_square, empty_text, squares_text, ranks_text}

-- n empty squares before a text
unfoldable pub after_empties : ℕ → List ℕ → List ℕ
after_empties zero text = text
after_empties (suc n) text = after_empty (after_empties n text)

one_more : (n : ℕ) (text : List ℕ) → after_empties n (after_empty text) ≡ after_empties (suc n) text
unfolding after_empties
one_more zero text = refl
one_more (suc n) text = ap after_empty (one_more n text)

pub letter_no_gap : (man : Man × Color) → is_gap (letter_of_man man) ≡ false
letter_no_gap (Pawn, White) = refl
letter_no_gap (Knight, White) = refl
letter_no_gap (Bishop, White) = refl
letter_no_gap (Rook, White) = refl
letter_no_gap (Queen, White) = refl
letter_no_gap (King, White) = refl
letter_no_gap (Pawn, Black) = refl
letter_no_gap (Knight, Black) = refl
letter_no_gap (Bishop, Black) = refl
letter_no_gap (Rook, Black) = refl
letter_no_gap (Queen, Black) = refl
letter_no_gap (King, Black) = refl

pub digit_is_gap : (n : ℕ) → 1 ≤ n → n ≤ 8 → is_gap (48 + n) ≡ true
digit_is_gap n low high = and_from (nat_le 49 (48 + n)) (nat_le (48 + n) 56) (le-leb 49 (48 + n) (omega arith)) (le-leb (48 + n) 56 (omega arith))

-- some empty squares before a text that begins with none are one digit
before_letter : (n c : ℕ) (text : List ℕ) → is_gap c ≡ false → n < 8 → after_empties (suc n) (c ∷ text) ≡ (48 + suc n) ∷ c ∷ text
unfolding after_empties after_empty
before_letter zero c text letter few = rw letter refl
before_letter (suc n) c text letter few =
    let digit = digit_is_gap (suc n) (omega arith) (omega arith) in let sum : (48 + suc n) + 1 ≡ 48 + suc (suc n) = omega arith in
    ap after_empty (before_letter n c text letter (omega arith)) ∙ rw digit (ap (λ (d : ℕ). d ∷ c ∷ text) sum)

before_end : (n : ℕ) → n < 8 → after_empties (suc n) [] ≡ (48 + suc n) ∷ []
unfolding after_empties after_empty
before_end zero few = refl
before_end (suc n) few =
    let digit = digit_is_gap (suc n) (omega arith) (omega arith) in let sum : (48 + suc n) + 1 ≡ 48 + suc (suc n) = omega arith in
    ap after_empty (before_end n (omega arith)) ∙ rw digit (ap (λ (d : ℕ). d ∷ []) sum)

not_zero : (n : ℕ) → (suc n == 0) ≡ false
not_zero n = ne_eqb (suc n) 0 (λ e. omega (arith, e))

empties_letter : (n c : ℕ) (text : List ℕ) → is_gap c ≡ false → n ≤ 8 → after_empties n (c ∷ text) ≡ empty_text n ++ c ∷ text
unfolding after_empties
empties_letter zero c text letter few = refl
empties_letter (suc n) c text letter few = before_letter n c text letter (omega arith) ∙ rw (not_zero n) refl

pub empties_end : (n : ℕ) → n ≤ 8 → after_empties n [] ≡ empty_text n
unfolding after_empties
empties_end zero few = refl
empties_end (suc n) few = before_end n (omega arith) ∙ rw (not_zero n) refl

joined : (a b c d : List ℕ) → (a ++ b ++ c) ++ d ≡ a ++ (b ++ (c ++ d))
joined a b c d = simp append_assoc refl

-- one square more
pub square_written : (old new rest : List ℕ) (empty next : ℕ) (man : Option (Man × Color)) → empty ≤ 7 →
    (man ≡ None → next ≡ empty + 1) → (man ≡ None → new ≡ old) → IfSome man (λ m. next ≡ 0) → IfSome man (λ m. new ≡ old ++ empty_text empty ++ letter_of_man m ∷ []) →
    new ++ after_empties next rest ≡ old ++ after_empties empty (after_square man rest)
unfolding after_square after_empties
square_written old new rest empty next None few more kept zeroed written =
    let next_is : empty + 1 ≡ suc empty = omega arith in
    ap (λ (xs : List ℕ). xs ++ after_empties next rest) (kept refl) ∙ ap (λ (n : ℕ). old ++ after_empties n rest) (more refl) ∙ ap (λ (xs : List ℕ). old ++ xs) (ap (λ (n : ℕ). after_empties n rest) next_is ∙ sym (one_more empty rest))
square_written old new rest empty next (Some m) few more kept zeroed written =
    let letter = letter_of_man m in
    ap (λ (xs : List ℕ). xs ++ after_empties next rest) written ∙ ap (λ (n : ℕ). (old ++ empty_text empty ++ letter ∷ []) ++ after_empties n rest) zeroed
    ∙ joined old (empty_text empty) (letter ∷ []) rest
    ∙ ap (λ (xs : List ℕ). old ++ xs) (sym (empties_letter empty letter rest (letter_no_gap m) (omega arith)))

-- ---- parts of a board's text

pub squares_more : (men : List PlacedMan) (n k square : ℕ) → n ≡ k + 1 → squares_text men n square ≡ after_square (man_on men square) (squares_text men k (square + 1))
unfolding squares_text
squares_more men zero k square e = absurd (omega arith)
squares_more men (suc n) k square e = let same : n ≡ k = omega arith in ap (λ (i : ℕ). after_square (man_on men square) (squares_text men i (square + 1))) same

pub squares_end : (men : List PlacedMan) (n square : ℕ) → n ≡ 0 → squares_text men n square ≡ []
unfolding squares_text
squares_end men zero square e = refl
squares_end men (suc n) square e = absurd (omega arith)

pub ranks_more : (men : List PlacedMan) (n k : ℕ) → n ≡ k + 2 → ranks_text men n ≡ squares_text men 8 (8 * (k + 1)) ++ 47 ∷ ranks_text men (k + 1)
unfolding ranks_text
ranks_more men zero k e = absurd (omega arith)
ranks_more men (suc zero) k e = absurd (omega arith)
ranks_more men (suc (suc n)) k e = let same : suc n ≡ k + 1 = omega arith in rw (not_zero n) (ap (λ (i : ℕ). squares_text men 8 (8 * i) ++ 47 ∷ ranks_text men i) same)

pub ranks_end : (men : List PlacedMan) (n : ℕ) → n ≡ 1 → ranks_text men n ≡ squares_text men 8 0
unfolding ranks_text
ranks_end men zero e = absurd (omega arith)
ranks_end men (suc zero) e = append-nil (squares_text men 8 0)
ranks_end men (suc (suc n)) e = absurd (omega arith)
