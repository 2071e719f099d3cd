-- Ranks of a board's text, character by character.
use Rattle.std.proofs.Common.{◌≡◌, ℕ, ◌+◌, ◌*◌, ◌<◌, ◌≤◌, List, [], ◌∷◌, ◌++◌, length, get_or, take, drop, zero, suc, refl, sym, ap, ◌∙◌, Bool, true, arith, inl, inr, Option, Some, None, length-append, append_assoc}
use Rattle.std.specs.Prelude.{◌==◌, ◌&&◌, nat_le, nat_lt, if◌then◌else◌, position}
use Rattle.std.specs.List.{position_or_len, before_first, after_first}
use Rattle.std.proofs.lemmas.Bool.{cases_Bool, and_parts, leb-true, ltb-false}
use Rattle.std.proofs.lemmas.List.{take-append-drop, take_more, append-nil}
use Rattle.szg_values.specs.Placement.{PlacedMan}
use Rattle.szg_values.specs.declared.Man.{Man}
use Rattle.szg_values.specs.declared.Color.{Color}
use Rattle.szg_chess.specs.Fen.{man_of_letter, is_gap, width_of, rank_width, men_at, men_of_rank, men_of_ranks, is_slash, are_ranks}

-- ---- places

pub place_within : {X : Type 0} (p : X → Bool) (xs : List X) → position_or_len p xs ≤ length xs
place_within p [] = omega arith
place_within p (x ∷ xs) = let h = place_within p xs in elim (cases_Bool (p x)) [ inl t ↦ rw t (omega arith) | inr f ↦ rw f (omega arith) ]

pub place_some : {X : Type 0} (p : X → Bool) (xs : List X) (i : ℕ) → position p xs ≡ Some i → i ≡ position_or_len p xs
place_some p xs i e = elim (cases_Bool (nat_lt (position_or_len p xs) (length xs))) [
  | inl t ↦ let h = rw t at e in cc
  | inr f ↦ let h = rw f at e in absurd cc
]

pub place_none : {X : Type 0} (p : X → Bool) (xs : List X) → position p xs ≡ None → length xs ≡ position_or_len p xs
place_none p xs e = elim (cases_Bool (nat_lt (position_or_len p xs) (length xs))) [
  | inl t ↦ let h = rw t at e in absurd cc
  | inr f ↦ let le = place_within p xs in let ge = ltb-false (position_or_len p xs) (length xs) f in omega (arith, le, ge)
]

-- ---- one more character

pub rank_width-append : (xs ys : List ℕ) → rank_width (xs ++ ys) ≡ rank_width xs + rank_width ys
unfolding rank_width
rank_width-append [] ys = omega arith
rank_width-append (x ∷ xs) ys = let h = rank_width-append xs ys in omega (arith, h)

pub width_more : (rank : List ℕ) (i : ℕ) → i < length rank → rank_width (take (i + 1) rank) ≡ rank_width (take i rank) + width_of (get_or rank i 0)
unfolding rank_width
width_more rank i h = let split = ap rank_width (take_more rank i 0 h) ∙ rank_width-append (take i rank) (get_or rank i 0 ∷ []) in omega (arith, split)

pub width_part : (rank : List ℕ) (i : ℕ) → rank_width (take i rank) ≤ rank_width rank
width_part rank i = let split = sym (rank_width-append (take i rank) (drop i rank)) ∙ ap rank_width (take-append-drop i rank) in omega (arith, split)

men-append : (square : ℕ) (xs ys : List ℕ) → men_of_rank square (xs ++ ys) ≡ men_of_rank square xs ++ men_of_rank (square + rank_width xs) ys
unfolding men_of_rank rank_width
men-append square [] ys = let e : square + 0 ≡ square = omega arith in ap (λ (n : ℕ). men_of_rank n ys) (sym e)
men-append square (x ∷ xs) ys =
    let here : List PlacedMan = if is_gap x then [] else men_at square (man_of_letter x) in
    let e : (square + width_of x) + rank_width xs ≡ square + (width_of x + rank_width xs) = omega arith in
    ap (λ (ms : List PlacedMan). here ++ ms) (men-append (square + width_of x) xs ys ∙ ap (λ (n : ℕ). men_of_rank (square + width_of x) xs ++ men_of_rank n ys) e)
    ∙ sym (append_assoc here (men_of_rank (square + width_of x) xs) (men_of_rank (square + (width_of x + rank_width xs)) ys))

pub men_more : (square : ℕ) (rank : List ℕ) (i : ℕ) → i < length rank →
    men_of_rank square (take (i + 1) rank) ≡ men_of_rank square (take i rank) ++ (if is_gap (get_or rank i 0) then [] else men_at (square + rank_width (take i rank)) (man_of_letter (get_or rank i 0)))
unfolding men_of_rank
men_more square rank i h =
    let c = get_or rank i 0 in
    ap (men_of_rank square) (take_more rank i 0 h) ∙ men-append square (take i rank) (c ∷ [])
    ∙ ap (λ (ms : List PlacedMan). men_of_rank square (take i rank) ++ ms) (append-nil (if is_gap c then [] else men_at (square + rank_width (take i rank)) (man_of_letter c)))

few_at : (square : ℕ) (o : Option (Man × Color)) → length (men_at square o) ≤ 1
unfolding men_at
few_at square None = omega arith
few_at square (Some man) = omega arith

pub width_positive : (c : ℕ) → 1 ≤ width_of c
unfolding width_of
width_positive c = elim (cases_Bool (is_gap c)) [
  | inl t ↦ let h = leb-true 49 c (and_parts (nat_le 49 c) (nat_le c 56) t).0 in rw t (omega (arith, h))
  | inr f ↦ rw f (omega arith)
]

pub few_men : (square : ℕ) (rank : List ℕ) → length (men_of_rank square rank) ≤ rank_width rank
unfolding men_of_rank rank_width
few_men square [] = omega arith
few_men square (c ∷ rank) =
    let rest = few_men (square + width_of c) rank in let one = width_positive c in
    elim (cases_Bool (is_gap c)) [
      | inl t ↦ rw t (omega (arith, rest))
      | inr f ↦ rw f (let here = few_at square (man_of_letter c) in let size = length-append (men_at square (man_of_letter c)) (men_of_rank (square + width_of c) rank) in omega (arith, rest, one, here, size))
    ]

-- ---- one more rank

pub are_ranks_more : (n k : ℕ) (text : List ℕ) → n ≡ k + 1 → are_ranks n text ≡ (rank_width (before_first is_slash text) == 8 && are_ranks k (after_first is_slash text))
unfolding are_ranks
are_ranks_more zero k text e = absurd (omega arith)
are_ranks_more (suc n) k text e = let same : n ≡ k = omega arith in ap (λ (i : ℕ). rank_width (before_first is_slash text) == 8 && are_ranks i (after_first is_slash text)) same

pub are_ranks_end : (n : ℕ) (text : List ℕ) → n ≡ 0 → are_ranks n text ≡ true
unfolding are_ranks
are_ranks_end zero text e = refl
are_ranks_end (suc n) text e = absurd (omega arith)

pub men_of_ranks_more : (n k : ℕ) (text : List ℕ) → n ≡ k + 1 → men_of_ranks n text ≡ men_of_rank (8 * k) (before_first is_slash text) ++ men_of_ranks k (after_first is_slash text)
unfolding men_of_ranks
men_of_ranks_more zero k text e = absurd (omega arith)
men_of_ranks_more (suc n) k text e = let same : n ≡ k = omega arith in ap (λ (i : ℕ). men_of_rank (8 * i) (before_first is_slash text) ++ men_of_ranks i (after_first is_slash text)) same

pub men_of_ranks_end : (n : ℕ) (text : List ℕ) → n ≡ 0 → men_of_ranks n text ≡ []
unfolding men_of_ranks
men_of_ranks_end zero text e = refl
men_of_ranks_end (suc n) text e = absurd (omega arith)
