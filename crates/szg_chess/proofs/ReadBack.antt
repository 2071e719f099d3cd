-- The text of a position is read as that position.
use Rattle.std.proofs.Common.{◌≡◌, ◌≢◌, ℕ, ◌+◌, ◌-◌, ◌*◌, ◌<◌, ◌≤◌, List, [], ◌∷◌, ◌++◌, length, take, drop, zero, suc, refl, sym, ap, ◌∙◌, subst, Bool, true, false, arith, inl, inr, ◌⊎◌, Option, Some, None, Contains, append_assoc}
use Rattle.std.specs.Prelude.{◌==◌, ◌&&◌, ◌||◌, not, cond, is_some, nat_le, nat_lt, count_by, if◌then◌else◌, option_map}
use Rattle.std.specs.List.{All, list_all, list_any, find, position_or_len, before_first, after_first}
use Rattle.std.proofs.lemmas.Bool.{cases_Bool, and_parts, and_from, both_ways, eq-eqb, ne_eqb, eqb-true, eqb-false, leb-true, le-leb, ltb-false, ltb-true, not-true, not_from_false, false_from_ne_true}
use Rattle.std.proofs.lemmas.List.Elements.{All-contains, All-head, Contains-append_left, Contains-append_right, Contains-append_cases}
use Rattle.std.proofs.lemmas.List.Folds.{list_all-append, list_any-append}
use Rattle.std.proofs.lemmas.List.Sums.{sum_by-append, sum_by-cons}
use Rattle.szg_values.specs.Men.{file_of, rank_of}
use Rattle.szg_values.specs.Placement.{PlacedMan, has_distinct_squares}
use Rattle.szg_values.specs.declared.Man.{Man}
use Rattle.szg_values.specs.declared.Man.TheVariants.{Pawn, Knight, Bishop, Rook, Queen, King}
use Rattle.szg_values.specs.declared.Color.{Color}
use Rattle.szg_values.specs.declared.Color.TheVariants.{White, Black}
use Rattle.szg_chess.specs.Position.{Position, man_on, has_sound_en_passant, first_of, men_fault, state_fault, position_fault}
use Rattle.szg_chess.specs.Images.{Same, IsImage}
use Rattle.szg_chess.specs.Laws.{LawReadBack}
use Rattle.szg_chess.specs.Uci.{square_text}
use Rattle.szg_chess.specs.declared.PositionFault.{PositionFault}
use Rattle.szg_chess.specs.declared.PositionFault.TheVariants as fault
use Rattle.szg_chess.specs.Fen.{field, rest, from_mover, from_castling, from_en_passant, is_mover, mover_of, is_dash, is_passed_square, is_en_passant_field, en_passant_of, is_number, is_last, has_counters, position_of, has_ranks, board_fault, fields_fault, counters_fault, fen_fault, mover_text, en_passant_text, fen_text, man_of_letter, is_gap, is_slash, is_space, is_board_letter, width_of, rank_width, are_ranks, men_at, men_of_rank, men_of_ranks, letter_of_man, after_empty, after_square, squares_text, ranks_text}
use Rattle.szg_chess.proofs.Bounds.{passed_rank}
use Rattle.szg_chess.proofs.Members.{some_of, only_man, contains_cons}
use Rattle.szg_chess.proofs.Writing.{letter_no_gap, ranks_more, ranks_end}
use Rattle.szg_chess.proofs.Facts.{faultless, first_none}
use Rattle.szg_chess.proofs.Images.Men.{AreImages}
use Rattle.szg_chess.proofs.Images.Positions.{reordered}

-- ---- a rank

-- a digit or a man's letter
abbrev is_plain : ℕ → Bool
is_plain c = is_gap c || is_some (man_of_letter c)

gap_low : (c : ℕ) → is_gap c ≡ true → 49 ≤ c
gap_low c t = leb-true 49 c (and_parts (nat_le 49 c) (nat_le c 56) t).0

gap_from : (c : ℕ) → 49 ≤ c → c ≤ 56 → is_gap c ≡ true
gap_from c low high = and_from (nat_le 49 c) (nat_le c 56) (le-leb 49 c low) (le-leb c 56 high)

gap_width : (c : ℕ) → is_gap c ≡ true → width_of c ≡ c - 48
unfolding width_of
gap_width c t = rw t refl

letter_width : (c : ℕ) → is_gap c ≡ false → width_of c ≡ 1
unfolding width_of
letter_width c f = rw f refl

gap_plain : (c : ℕ) → is_gap c ≡ true → is_plain c ≡ true
gap_plain c t = rw t refl

men_gap : (c square : ℕ) (text : List ℕ) → is_gap c ≡ true → men_of_rank square (c ∷ text) ≡ men_of_rank (square + width_of c) text
unfolding men_of_rank
men_gap c square text t = rw t refl

men_letter : (c square : ℕ) (text : List ℕ) → is_gap c ≡ false → men_of_rank square (c ∷ text) ≡ men_at square (man_of_letter c) ++ men_of_rank (square + width_of c) text
unfolding men_of_rank
men_letter c square text f = rw f refl

width_cons : (c : ℕ) (text : List ℕ) → rank_width (c ∷ text) ≡ width_of c + rank_width text
unfolding rank_width
width_cons c text = refl

-- a text of n squares from this square on that says these men
record IsRead (text : List ℕ) (square n : ℕ) (men : List PlacedMan) : Type 0 where
  width : rank_width text ≡ n
  says : men_of_rank square text ≡ men
  plain : list_all is_plain text ≡ true

raised : (c : ℕ) (text : List ℕ) (square n : ℕ) (men : List PlacedMan) → is_gap c ≡ true → n ≤ 7 → IsRead (c ∷ text) (square + 1) n men → IsRead ((c + 1) ∷ text) square (suc n) men
raised c text square n men t few r =
    let low = gap_low c t in let w = gap_width c t in let whole = sym (width_cons c text) ∙ r.width in
    let t' : is_gap (c + 1) ≡ true = gap_from (c + 1) (omega (arith, low)) (omega (arith, w, whole, few, low)) in
    let w' = gap_width (c + 1) t' in
    let next : square + width_of (c + 1) ≡ (square + 1) + width_of c = omega (arith, w, w', low) in
    let more = width_cons (c + 1) text in
    record {
      width = omega (arith, more, whole, w, w', low);
      says = men_gap (c + 1) square text t' ∙ ap (λ (k : ℕ). men_of_rank k text) next ∙ sym (men_gap c (square + 1) text t) ∙ r.says;
      plain = and_from (is_plain (c + 1)) (list_all is_plain text) (gap_plain (c + 1) t') (and_parts (is_plain c) (list_all is_plain text) r.plain).1;
    }

width_one : width_of 49 ≡ 1
unfolding width_of
width_one = refl

one_gap : (text : List ℕ) (square n : ℕ) (men : List PlacedMan) → IsRead text (square + 1) n men → IsRead (49 ∷ text) square (suc n) men
one_gap text square n men r =
    let one = width_one in let more = width_cons 49 text in let whole = r.width in
    let next : square + width_of 49 ≡ square + 1 = omega (arith, one) in
    record {
      width = omega (arith, one, more, whole);
      says = men_gap 49 square text refl ∙ ap (λ (k : ℕ). men_of_rank k text) next ∙ r.says;
      plain = and_from (is_plain 49) (list_all is_plain text) refl r.plain;
    }

empty_read : (text : List ℕ) (square n : ℕ) (men : List PlacedMan) → n ≤ 7 → IsRead text (square + 1) n men → IsRead (after_empty text) square (suc n) men
unfolding after_empty
empty_read [] square n men few r = one_gap [] square n men r
empty_read (c ∷ text) square n men few r = elim (cases_Bool (is_gap c)) [
  | inl t ↦ rw t (raised c text square n men t few r)
  | inr f ↦ rw f (one_gap (c ∷ text) square n men r)
]

letter_back : (man : Man × Color) → man_of_letter (letter_of_man man) ≡ Some man
letter_back (Pawn, White) = refl
letter_back (Knight, White) = refl
letter_back (Bishop, White) = refl
letter_back (Rook, White) = refl
letter_back (Queen, White) = refl
letter_back (King, White) = refl
letter_back (Pawn, Black) = refl
letter_back (Knight, Black) = refl
letter_back (Bishop, Black) = refl
letter_back (Rook, Black) = refl
letter_back (Queen, Black) = refl
letter_back (King, Black) = refl

letter_read : (c : ℕ) (man : Man × Color) (text : List ℕ) (square n : ℕ) (men : List PlacedMan) → is_gap c ≡ false → man_of_letter c ≡ Some man → IsRead text (square + 1) n men →
    IsRead (c ∷ text) square (suc n) (men_at square (Some man) ++ men)
letter_read c man text square n men f back r =
    let one = letter_width c f in let more = width_cons c text in let whole = r.width in
    let next : square + width_of c ≡ square + 1 = omega (arith, one) in
    let plain : is_plain c ≡ true = ap (λ (b : Bool). b || is_some (man_of_letter c)) f ∙ ap (λ (o : Option (Man × Color)). is_some o) back in
    record {
      width = omega (arith, one, more, whole);
      says = men_letter c square text f ∙ ap (λ (o : Option (Man × Color)). men_at square o ++ men_of_rank (square + width_of c) text) back
          ∙ ap (λ (k : ℕ). men_at square (Some man) ++ men_of_rank k text) next ∙ ap (λ (ms : List PlacedMan). men_at square (Some man) ++ ms) r.says;
      plain = and_from (is_plain c) (list_all is_plain text) plain r.plain;
    }

square_read : (o : Option (Man × Color)) (text : List ℕ) (square n : ℕ) (men : List PlacedMan) → n ≤ 7 → IsRead text (square + 1) n men → IsRead (after_square o text) square (suc n) (men_at square o ++ men)
unfolding after_square men_at
square_read None text square n men few r = empty_read text square n men few r
square_read (Some man) text square n men few r = letter_read (letter_of_man man) man text square n men (letter_no_gap man) (letter_back man) r

-- the men on n squares from this square on
pub men_in : List PlacedMan → ℕ → ℕ → List PlacedMan
men_in men zero square = []
men_in men (suc n) square = men_at square (man_on men square) ++ men_in men n (square + 1)

squares_read : (men : List PlacedMan) (n square : ℕ) → n ≤ 8 → IsRead (squares_text men n square) square n (men_in men n square)
unfolding squares_text men_in rank_width men_of_rank
squares_read men zero square few = record { width = refl; says = refl; plain = refl }
squares_read men (suc n) square few = square_read (man_on men square) (squares_text men n (square + 1)) square n (men_in men n (square + 1)) (omega arith) (squares_read men n (square + 1) (omega arith))

-- ---- up to a separator

-- no element passes the test
abbrev is_free : {X : Type 0} → (X → Bool) → List X → Bool
is_free test xs = list_all (λ x. not (test x)) xs

pub place_at : {X : Type 0} (test : X → Bool) (xs : List X) (y : X) (ys : List X) → is_free test xs ≡ true → test y ≡ true → position_or_len test (xs ++ y ∷ ys) ≡ length xs
place_at test [] y ys free e = rw e refl
place_at test (x ∷ xs) y ys free e =
    let parts = and_parts (not (test x)) (is_free test xs) free in
    let h = place_at test xs y ys parts.1 e in
    rw (not-true (test x) parts.0) (omega (arith, h))

take_all : {X : Type 0} (xs ys : List X) → take (length xs) (xs ++ ys) ≡ xs
take_all [] ys = refl
take_all (x ∷ xs) ys = ap (λ zs. x ∷ zs) (take_all xs ys)

drop_all : {X : Type 0} (xs : List X) (y : X) (ys : List X) → drop (length xs + 1) (xs ++ y ∷ ys) ≡ ys
drop_all [] y ys = refl
drop_all (x ∷ xs) y ys = let e : suc (length xs) + 1 ≡ suc (length xs + 1) = omega arith in rw e (drop_all xs y ys)

pub before_at : {X : Type 0} (test : X → Bool) (xs : List X) (y : X) (ys : List X) → is_free test xs ≡ true → test y ≡ true → before_first test (xs ++ y ∷ ys) ≡ xs
before_at test xs y ys free e = ap (λ (n : ℕ). take n (xs ++ y ∷ ys)) (place_at test xs y ys free e) ∙ take_all xs (y ∷ ys)

pub after_at : {X : Type 0} (test : X → Bool) (xs : List X) (y : X) (ys : List X) → is_free test xs ≡ true → test y ≡ true → after_first test (xs ++ y ∷ ys) ≡ ys
after_at test xs y ys free e = ap (λ (n : ℕ). drop (n + 1) (xs ++ y ∷ ys)) (place_at test xs y ys free e) ∙ drop_all xs y ys

free_end : {X : Type 0} (test : X → Bool) (xs : List X) → is_free test xs ≡ true → position_or_len test xs ≡ length xs
free_end test [] free = refl
free_end test (x ∷ xs) free =
    let parts = and_parts (not (test x)) (is_free test xs) free in
    let h = free_end test xs parts.1 in
    rw (not-true (test x) parts.0) (omega (arith, h))

take_whole : {X : Type 0} (xs : List X) → take (length xs) xs ≡ xs
take_whole [] = refl
take_whole (x ∷ xs) = ap (λ zs. x ∷ zs) (take_whole xs)

pub before_none : {X : Type 0} (test : X → Bool) (xs : List X) → is_free test xs ≡ true → before_first test xs ≡ xs
before_none test xs free = ap (λ (n : ℕ). take n xs) (free_end test xs free) ∙ take_whole xs

all_weaker : {X : Type 0} (test other : X → Bool) (xs : List X) → ((x : X) → test x ≡ true → other x ≡ true) → list_all test xs ≡ true → list_all other xs ≡ true
all_weaker test other [] so all = refl
all_weaker test other (x ∷ xs) so all =
    let parts = and_parts (test x) (list_all test xs) all in
    and_from (other x) (list_all other xs) (so x parts.0) (all_weaker test other xs so parts.1)

-- a code that is not plain is no plain character
not_code : (test : ℕ → Bool) (code : ℕ) → test code ≡ false → (c : ℕ) → test c ≡ true → not (c == code) ≡ true
not_code test code odd c t = not_from_false (c == code) (ne_eqb c code (λ (e : c ≡ code). both_ways (test c) (ap test e ∙ odd) t))

count_none : {X : Type 0} (test : X → Bool) (xs : List X) → is_free test xs ≡ true → count_by test xs ≡ 0
count_none test [] free = refl
count_none test (x ∷ xs) free =
    let parts = and_parts (not (test x)) (is_free test xs) free in
    rw (not-true (test x) parts.0) (count_none test xs parts.1)

-- ---- the board

-- the men of n ranks, from the last one down to rank 1
pub men_down : List PlacedMan → ℕ → List PlacedMan
men_down men zero = []
men_down men (suc n) = men_in men 8 (8 * n) ++ men_down men n

-- a text of n ranks, the last of which is rank 1, that says these men
pub record IsBoard (text : List ℕ) (n : ℕ) (men : List PlacedMan) : Type 0 where
  pub ranks : are_ranks n text ≡ true
  pub says : men_of_ranks n text ≡ men
  pub slashes : count_by is_slash text + 1 ≡ n
  pub letters : list_all is_board_letter text ≡ true

plain_letter : (c : ℕ) → is_plain c ≡ true → is_board_letter c ≡ true
unfolding is_board_letter
plain_letter c t = either (is_gap c) (is_some (man_of_letter c)) (is_slash c) t
  where
    either : (a b s : Bool) → (a || b) ≡ true → (a || b || s) ≡ true
    either true b s e = refl
    either false true s e = refl
    either false false s e = absurd cc

slash_letter : is_board_letter 47 ≡ true
unfolding is_board_letter
slash_letter = refl

space_no_letter : is_board_letter 32 ≡ false
unfolding is_board_letter
space_no_letter = refl

last_rank : (text : List ℕ) (men : List PlacedMan) → IsRead text 0 8 men → IsBoard text 1 (men ++ [])
unfolding are_ranks men_of_ranks
last_rank text men r =
    let free = all_weaker is_plain (λ c. not (is_slash c)) text (not_code is_plain 47 refl) r.plain in
    let before = before_none is_slash text free in let none = count_none is_slash text free in
    record {
      ranks = and_from (rank_width (before_first is_slash text) == 8) true (eq-eqb (rank_width (before_first is_slash text)) 8 (ap rank_width before ∙ r.width)) refl;
      says = ap (λ (xs : List ℕ). men_of_rank 0 xs ++ []) before ∙ ap (λ (ms : List PlacedMan). ms ++ []) r.says;
      slashes = omega (arith, none);
      letters = all_weaker is_plain is_board_letter text plain_letter r.plain;
    }

one_rank : (text rest : List ℕ) (n : ℕ) (men ms : List PlacedMan) → IsRead text (8 * n) 8 men → IsBoard rest n ms → IsBoard (text ++ 47 ∷ rest) (suc n) (men ++ ms)
unfolding are_ranks men_of_ranks
one_rank text rest n men ms r b =
    let free = all_weaker is_plain (λ c. not (is_slash c)) text (not_code is_plain 47 refl) r.plain in
    let before = before_at is_slash text 47 rest free refl in let after = after_at is_slash text 47 rest free refl in
    let none = count_none is_slash text free in let size = sum_by-append (λ (c : ℕ). cond (is_slash c) 1 0) text (47 ∷ rest) in let one = sum_by-cons (λ (c : ℕ). cond (is_slash c) 1 0) 47 rest in let more = b.slashes in
    record {
      ranks = and_from (rank_width (before_first is_slash (text ++ 47 ∷ rest)) == 8) (are_ranks n (after_first is_slash (text ++ 47 ∷ rest)))
          (eq-eqb (rank_width (before_first is_slash (text ++ 47 ∷ rest))) 8 (ap rank_width before ∙ r.width)) (ap (are_ranks n) after ∙ b.ranks);
      says = ap (λ (xs : List ℕ). men_of_rank (8 * n) xs ++ men_of_ranks n (after_first is_slash (text ++ 47 ∷ rest))) before
          ∙ ap (λ (xs : List ℕ). men_of_rank (8 * n) text ++ men_of_ranks n xs) after
          ∙ ap (λ (xs : List PlacedMan). xs ++ men_of_ranks n rest) r.says ∙ ap (λ (xs : List PlacedMan). men ++ xs) b.says;
      slashes = omega (arith, none, size, one, more);
      letters = list_all-append is_board_letter text (47 ∷ rest)
          ∙ and_from (list_all is_board_letter text) (is_board_letter 47 && list_all is_board_letter rest) (all_weaker is_plain is_board_letter text plain_letter r.plain)
          (and_from (is_board_letter 47) (list_all is_board_letter rest) slash_letter b.letters);
    }

pub board_read : (men : List PlacedMan) (n : ℕ) → IsBoard (ranks_text men (suc n)) (suc n) (men_down men (suc n))
unfolding men_down
board_read men zero = subst (λ (text : List ℕ). IsBoard text 1 (men_in men 8 0 ++ [])) (sym (ranks_end men 1 refl)) (last_rank (squares_text men 8 0) (men_in men 8 0) (squares_read men 8 0 (omega arith)))
board_read men (suc n) =
    let one : n + 1 ≡ suc n = omega arith in
    let text : ranks_text men (suc (suc n)) ≡ squares_text men 8 (8 * suc n) ++ 47 ∷ ranks_text men (suc n) =
    ranks_more men (suc (suc n)) n (omega arith) ∙ ap (λ (k : ℕ). squares_text men 8 (8 * k) ++ 47 ∷ ranks_text men k) one in
    subst (λ (xs : List ℕ). IsBoard xs (suc (suc n)) (men_in men 8 (8 * suc n) ++ men_down men (suc n))) (sym text)
    (one_rank (squares_text men 8 (8 * suc n)) (ranks_text men (suc n)) (suc n) (men_in men 8 (8 * suc n)) (men_down men (suc n)) (squares_read men 8 (8 * suc n) (omega arith)) (board_read men n))

-- a board's text has no space
pub no_space : (text : List ℕ) → list_all is_board_letter text ≡ true → is_free is_space text ≡ true
no_space text all = all_weaker is_board_letter (λ c. not (is_space c)) text (not_code is_board_letter 32 space_no_letter) all

-- ---- the men that are read are those that were written

found : (men : List PlacedMan) → has_distinct_squares men ≡ true → (s : PlacedMan) → Contains men s → find (λ t. t.2 == s.2) men ≡ Some s
found [] apart s held = absurd (omega (arith, held.1))
found (x ∷ xs) apart s held = elim (cases_Bool (x.2 == s.2)) [
  | inl t ↦ rw t (ap (λ (u : PlacedMan). Some u) (first (only_man (x ∷ xs) apart s held) (eqb-true x.2 s.2 t)))
  | inr f ↦ rw f (found xs (and_parts (not (list_any (λ t. x.2 == t.2) xs)) (has_distinct_squares xs) apart).1 s (elim (contains_cons x xs s held) [
    | inl same ↦ absurd (both_ways (x.2 == s.2) f (eq-eqb x.2 s.2 (ap (λ (u : PlacedMan). u.2) same)))
    | inr more ↦ more
  ]))
]
  where
    first : All (λ (u : PlacedMan). u.2 ≡ s.2 → u ≡ s) (x ∷ xs) → x.2 ≡ s.2 → x ≡ s
    first all here = All-head (λ (u : PlacedMan). u.2 ≡ s.2 → u ≡ s) x xs all here

on_square : (men : List PlacedMan) → has_distinct_squares men ≡ true → (s : PlacedMan) → Contains men s → man_on men s.2 ≡ Some (s.0, s.1)
on_square men apart s held = ap (option_map (λ (t : PlacedMan). (t.0, t.1))) (found men apart s held)

in_squares : (men : List PlacedMan) (s : PlacedMan) → man_on men s.2 ≡ Some (s.0, s.1) → (n square : ℕ) → square ≤ s.2 → s.2 < square + n → Contains (men_in men n square) s
unfolding men_in men_at
in_squares men s on zero square low high = absurd (omega (arith, low, high))
in_squares men s on (suc n) square low high = elim (cases_Bool (s.2 == square)) [
  | inl t ↦
      let here : men_at square (man_on men square) ≡ s ∷ [] = ap (λ (k : ℕ). men_at k (man_on men k)) (sym (eqb-true s.2 square t)) ∙ ap (men_at s.2) on in
      subst (λ (xs : List PlacedMan). Contains (xs ++ men_in men n (square + 1)) s) (sym here) (zero, omega arith, refl)
  | inr f ↦
      let apart = eqb-false s.2 square f in
      Contains-append_right (men_at square (man_on men square)) (men_in men n (square + 1)) s (in_squares men s on n (square + 1) (after square s.2 low apart) (omega (arith, high)))
]
  where
    after : (a b : ℕ) → a ≤ b → b ≢ a → a + 1 ≤ b
    after a b h apart = elim (cases_Bool (nat_lt a b)) [
      | inl t ↦ let less = ltb-true a b t in omega (arith, less)
      | inr f ↦ let more = ltb-false a b f in absurd (apart (omega (arith, h, more)))
    ]

in_board : (men : List PlacedMan) (s : PlacedMan) → man_on men s.2 ≡ Some (s.0, s.1) → (n : ℕ) → s.2 < 8 * n → Contains (men_down men n) s
unfolding men_down
in_board men s on zero high = absurd (omega (arith, high))
in_board men s on (suc n) high = elim (cases_Bool (nat_lt s.2 (8 * n))) [
  | inl t ↦ Contains-append_right (men_in men 8 (8 * n)) (men_down men n) s (in_board men s on n (ltb-true s.2 (8 * n) t))
  | inr f ↦ Contains-append_left (men_in men 8 (8 * n)) (men_down men n) s (let low = ltb-false s.2 (8 * n) f in in_squares men s on 8 (8 * n) low (omega (arith, high)))
]

-- a man that was found on a square
of_found : (men : List PlacedMan) (square : ℕ) (t : PlacedMan) → Contains (men_at square (option_map (λ (s : PlacedMan). (s.0, s.1)) (find (λ s. s.2 == square) men))) t → Contains men t × (t.2 ≡ square)
unfolding men_at
of_found [] square t held = absurd (omega (arith, held.1))
of_found (x ∷ xs) square t held = elim (cases_Bool (x.2 == square)) [
  | inl e ↦
      let here = eqb-true x.2 square e in
      let only = rw e at held in
      let same : (x.0, x.1, square) ≡ t = alone (x.0, x.1, square) t only in
      let whole : x ≡ t = ap (λ (k : ℕ). (x.0, x.1, k)) here ∙ same in
      ((zero, omega arith, whole), sym (ap (λ (u : PlacedMan). u.2) same))
  | inr f ↦
      let rest = of_found xs square t (rw f at held) in
      (Contains-append_right (x ∷ []) xs t rest.0, rest.1)
]
  where
    alone : (s t : PlacedMan) → Contains (s ∷ []) t → s ≡ t
    alone s t (zero, h, e) = e
    alone s t (suc k, h, e) = absurd (omega (arith, h))

of_squares : (men : List PlacedMan) (n square : ℕ) (t : PlacedMan) → Contains (men_in men n square) t → Contains men t × ((square ≤ t.2) × (t.2 < square + n))
unfolding men_in
of_squares men zero square t held = absurd (omega (arith, held.1))
of_squares men (suc n) square t held = elim (Contains-append_cases (men_at square (man_on men square)) (men_in men n (square + 1)) t held) [
  | inl here ↦ let r = of_found men square t here in let same = r.1 in (r.0, (omega (arith, same), omega (arith, same)))
  | inr more ↦ let r = of_squares men n (square + 1) t more in let low = r.1.0 in let high = r.1.1 in (r.0, (omega (arith, low), omega (arith, high)))
]

of_board : (men : List PlacedMan) (n : ℕ) (t : PlacedMan) → Contains (men_down men n) t → Contains men t × (t.2 < 8 * n)
unfolding men_down
of_board men zero t held = absurd (omega (arith, held.1))
of_board men (suc n) t held = elim (Contains-append_cases (men_in men 8 (8 * n)) (men_down men n) t held) [
  | inl here ↦ let r = of_squares men 8 (8 * n) t here in let high = r.1.1 in (r.0, omega (arith, high))
  | inr more ↦ let r = of_board men n t more in let high = r.1 in (r.0, omega (arith, high))
]

-- no two of them are on one square
apart_append : (xs ys : List PlacedMan) → has_distinct_squares xs ≡ true → has_distinct_squares ys ≡ true → ((x y : PlacedMan) → Contains xs x → Contains ys y → x.2 ≢ y.2) → has_distinct_squares (xs ++ ys) ≡ true
apart_append [] ys left right cross = right
apart_append (x ∷ xs) ys left right cross =
    let parts = and_parts (not (list_any (λ t. x.2 == t.2) xs)) (has_distinct_squares xs) left in
    let none : list_any (λ (t : PlacedMan). x.2 == t.2) ys ≡ false = false_from_ne_true (list_any (λ (t : PlacedMan). x.2 == t.2) ys) (λ e.
    let r = some_of (λ (t : PlacedMan). x.2 == t.2) ys e in cross x r.0 (zero, omega arith, refl) r.1.0 (eqb-true x.2 r.0.2 r.1.1)) in
    let both : list_any (λ (t : PlacedMan). x.2 == t.2) (xs ++ ys) ≡ false = list_any-append (λ (t : PlacedMan). x.2 == t.2) xs ys ∙ neither (list_any (λ (t : PlacedMan). x.2 == t.2) xs) (list_any (λ (t : PlacedMan). x.2 == t.2) ys) (not-true (list_any (λ (t : PlacedMan). x.2 == t.2) xs) parts.0) none in
    and_from (not (list_any (λ (t : PlacedMan). x.2 == t.2) (xs ++ ys))) (has_distinct_squares (xs ++ ys)) (not_from_false (list_any (λ (t : PlacedMan). x.2 == t.2) (xs ++ ys)) both)
    (apart_append xs ys parts.1 right (λ y z held held'. cross y z (Contains-append_right (x ∷ []) xs y held) held'))
  where
    neither : (a b : Bool) → a ≡ false → b ≡ false → (a || b) ≡ false
    neither true b e h = e
    neither false b e h = h

apart_at : (square : ℕ) (o : Option (Man × Color)) → has_distinct_squares (men_at square o) ≡ true
unfolding men_at
apart_at square None = refl
apart_at square (Some man) = refl

apart_squares : (men : List PlacedMan) (n square : ℕ) → has_distinct_squares (men_in men n square) ≡ true
unfolding men_in
apart_squares men zero square = refl
apart_squares men (suc n) square = apart_append (men_at square (man_on men square)) (men_in men n (square + 1)) (apart_at square (man_on men square)) (apart_squares men n (square + 1))
    (λ x y here more e. let at = (of_found men square x here).1 in let low = (of_squares men n (square + 1) y more).1.0 in omega (arith, at, low, e))

pub apart_board : (men : List PlacedMan) (n : ℕ) → has_distinct_squares (men_down men n) ≡ true
unfolding men_down
apart_board men zero = refl
apart_board men (suc n) = apart_append (men_in men 8 (8 * n)) (men_down men n) (apart_squares men 8 (8 * n)) (apart_board men n)
    (λ x y here more e. let low = (of_squares men 8 (8 * n) x here).1.0 in let high = (of_board men n y more).1 in omega (arith, low, high, e))

-- the men that are read are the same ones
pub same_men : (men : List PlacedMan) → has_distinct_squares men ≡ true → ((s : PlacedMan) → Contains men s → s.2 < 64) → AreImages Same men (men_down men 8)
same_men men apart inside = record {
  there = λ s held. in_board men s (on_square men apart s held) 8 (let h = inside s held in omega (arith, h));
  back = λ t held. (t, ((of_board men 8 t held).0, refl));
}

-- ---- the other fields

abbrev tail_text : Color → Option ℕ → List ℕ
tail_text mover o = mover_text mover ++ 32 ∷ 45 ∷ 32 ∷ en_passant_text o

fen_is : (p : Position) → fen_text p ≡ ranks_text p.placed_men 8 ++ 32 ∷ tail_text p.mover p.en_passant
unfolding fen_text
fen_is p = append_assoc (ranks_text p.placed_men 8) (32 ∷ mover_text p.mover) (32 ∷ 45 ∷ 32 ∷ en_passant_text p.en_passant)

board_of : (p : Position) → field (fen_text p) ≡ ranks_text p.placed_men 8
board_of p = ap field (fen_is p) ∙ before_at is_space (ranks_text p.placed_men 8) 32 (tail_text p.mover p.en_passant) (no_space (ranks_text p.placed_men 8) (board_read p.placed_men 7).letters) refl

rest_of : (p : Position) → rest (fen_text p) ≡ tail_text p.mover p.en_passant
rest_of p = ap rest (fen_is p) ∙ after_at is_space (ranks_text p.placed_men 8) 32 (tail_text p.mover p.en_passant) (no_space (ranks_text p.placed_men 8) (board_read p.placed_men 7).letters) refl

mover_field : (mover : Color) (o : Option ℕ) → field (tail_text mover o) ≡ mover_text mover
mover_field White o = refl
mover_field Black o = refl

mover_rest : (mover : Color) (o : Option ℕ) → rest (tail_text mover o) ≡ 45 ∷ 32 ∷ en_passant_text o
mover_rest White o = refl
mover_rest Black o = refl

mover_back : (mover : Color) → mover_of (mover_text mover) ≡ mover
mover_back White = refl
mover_back Black = refl

is_mover_text : (mover : Color) → is_mover (mover_text mover) ≡ true
is_mover_text White = refl
is_mover_text Black = refl

last_of : (p : Position) → from_en_passant (fen_text p) ≡ en_passant_text p.en_passant
last_of p = ap (λ (xs : List ℕ). rest (rest xs)) (rest_of p) ∙ ap rest (mover_rest p.mover p.en_passant)

free_square : (q : ℕ) → is_free is_space (square_text q) ≡ true
free_square q =
    and_from (not (97 + file_of q == 32)) (not (49 + rank_of q == 32) && true) (not_from_false (97 + file_of q == 32) (ne_eqb (97 + file_of q) 32 (λ e. omega (arith, e))))
    (and_from (not (49 + rank_of q == 32)) true (not_from_false (49 + rank_of q == 32) (ne_eqb (49 + rank_of q) 32 (λ e. omega (arith, e)))) refl)

last_field : (o : Option ℕ) → field (en_passant_text o) ≡ en_passant_text o
last_field None = refl
last_field (Some q) = before_none is_space (square_text q) (free_square q)

square_back : (o : Option ℕ) → en_passant_of (en_passant_text o) ≡ o
square_back None = refl
square_back (Some q) = let e : 8 * ((49 + rank_of q) - 49) + ((97 + file_of q) - 97) ≡ q = omega arith in ap (λ (k : ℕ). Some k) e

or_right : (a b : Bool) → b ≡ true → (a || b) ≡ true
or_right true b h = refl
or_right false b h = h

or_left : (a b : Bool) → a ≡ true → (a || b) ≡ true
or_left true b h = refl
or_left false b h = cc

is_passed : (q : ℕ) → ((rank_of q ≡ 5) ⊎ (rank_of q ≡ 2)) → is_passed_square (square_text q) ≡ true
is_passed q ranks =
    let c = 97 + file_of q in let d = 49 + rank_of q in
    and_from (true && nat_le 97 c && nat_le c 104) (d == 51 || d == 54)
    (and_from (true && nat_le 97 c) (nat_le c 104) (and_from true (nat_le 97 c) refl (le-leb 97 c (omega arith))) (le-leb c 104 (omega arith)))
    (elim ranks [
      | inl e ↦ or_right (d == 51) (d == 54) (eq-eqb d 54 (omega (arith, e)))
      | inr e ↦ or_left (d == 51) (d == 54) (eq-eqb d 51 (omega (arith, e)))
    ])

is_last_field : (men : List PlacedMan) (mover : Color) (o : Option ℕ) → has_sound_en_passant men mover o ≡ true → is_en_passant_field (en_passant_text o) ≡ true
is_last_field men mover None sound = refl
is_last_field men mover (Some q) sound = or_right (is_dash (square_text q)) (is_passed_square (square_text q)) (is_passed q (passed_rank men mover q sound))

-- ---- the whole text

abbrev with_men : List PlacedMan → Color → Option ℕ → Position
with_men men mover o = record { placed_men = men; mover = mover; en_passant = o }

position_read : (p : Position) → position_of (fen_text p) ≡ with_men (men_down p.placed_men 8) p.mover p.en_passant
position_read p =
    let text = fen_text p in
    let men : men_of_ranks 8 (field text) ≡ men_down p.placed_men 8 = ap (men_of_ranks 8) (board_of p) ∙ (board_read p.placed_men 7).says in
    let mover : mover_of (field (from_mover text)) ≡ p.mover = ap (λ (xs : List ℕ). mover_of (field xs)) (rest_of p) ∙ ap mover_of (mover_field p.mover p.en_passant) ∙ mover_back p.mover in
    let square : en_passant_of (field (from_en_passant text)) ≡ p.en_passant = ap (λ (xs : List ℕ). en_passant_of (field xs)) (last_of p) ∙ ap en_passant_of (last_field p.en_passant) ∙ square_back p.en_passant in
    ap (λ (ms : List PlacedMan). with_men ms (mover_of (field (from_mover text))) (en_passant_of (field (from_en_passant text)))) men
    ∙ ap (λ (c : Color). with_men (men_down p.placed_men 8) c (en_passant_of (field (from_en_passant text)))) mover
    ∙ ap (with_men (men_down p.placed_men 8) p.mover) square

nothing_more : (p : Position) → is_last (from_en_passant (fen_text p)) ≡ true
nothing_more p =
    ap is_last (last_of p) ∙ eq-eqb (length (field (en_passant_text p.en_passant))) (length (en_passant_text p.en_passant)) (ap length (last_field p.en_passant))

board_none : (board : List ℕ) (men : List PlacedMan) → IsBoard board 8 men → board_fault board ≡ None
unfolding board_fault
board_none board men b =
    let size = b.slashes in
    let seven : (count_by is_slash board == 7) ≡ true = eq-eqb (count_by is_slash board) 7 (omega (arith, size)) in
    none_of_two (list_all is_board_letter board) (has_ranks board) b.letters (and_from (count_by is_slash board == 7) (are_ranks 8 board) seven b.ranks)
  where
    none_of_two : (x y : Bool) → x ≡ true → y ≡ true → (if not x then Some fault.Letter else if not y then Some fault.Rank else None) ≡ None
    none_of_two x y h k = rw (h, k) refl

fields_none : (p : Position) → has_sound_en_passant p.placed_men p.mover p.en_passant ≡ true → fields_fault (fen_text p) ≡ None
unfolding fields_fault
fields_none p sound =
    let text = fen_text p in
    none_of_three (is_mover (field (from_mover text))) (is_dash (field (from_castling text))) (is_en_passant_field (field (from_en_passant text)))
    (ap (λ (xs : List ℕ). is_mover (field xs)) (rest_of p) ∙ ap is_mover (mover_field p.mover p.en_passant) ∙ is_mover_text p.mover)
    (ap (λ (xs : List ℕ). is_dash (field (rest xs))) (rest_of p) ∙ ap (λ (xs : List ℕ). is_dash (field xs)) (mover_rest p.mover p.en_passant))
    (ap (λ (xs : List ℕ). is_en_passant_field (field xs)) (last_of p) ∙ ap is_en_passant_field (last_field p.en_passant) ∙ is_last_field p.placed_men p.mover p.en_passant sound)
  where
    none_of_three : (x y z : Bool) → x ≡ true → y ≡ true → z ≡ true → (if not x then Some fault.SideToMove else if not y then Some fault.Castling else if not z then Some fault.EnPassant else None) ≡ None
    none_of_three x y z h k l = rw (h, k, l) refl

counters_none : (p : Position) → counters_fault (fen_text p) ≡ None
unfolding counters_fault
counters_none p =
    let last = from_en_passant (fen_text p) in
    none_of_one (has_counters last) (or_left (is_last last) (is_number (field (rest last)) && is_number (rest (rest last))) (nothing_more p))
  where
    none_of_one : (x : Bool) → x ≡ true → (if not x then Some fault.Counters else None) ≡ None
    none_of_one x h = rw h refl

all_none : (a b c d e : Option PositionFault) → a ≡ None → b ≡ None → c ≡ None → d ≡ None → e ≡ None → first_of (a ∷ b ∷ c ∷ d ∷ e ∷ []) ≡ None
all_none a b c d e ha hb hc hd he = rw (ha, hb, hc, hd, he) refl

no_faults : (p : Position) → position_fault p ≡ None → (men_fault p.placed_men ≡ None) × (state_fault p ≡ None)
unfolding position_fault
no_faults p h = let both = first_none (men_fault p.placed_men) (state_fault p ∷ []) h in (both.0, (first_none (state_fault p) [] both.1).0)

pub read_back : LawReadBack
unfolding fen_fault
read_back p position =
    let text = fen_text p in let men = p.placed_men in
    let known = faultless p position.no_fault in
    let board = board_read men 7 in
    let is = reordered p position (men_down men 8) (apart_board men 8) (same_men men known.apart (λ s held. All-contains (λ (t : PlacedMan). t.2 < 64) men s position.squares.men held)) in
    let none = no_faults (with_men (men_down men 8) p.mover p.en_passant) is.position.no_fault in
    let last = nothing_more p in
    record {
      accepted = all_none (board_fault (field text)) (men_fault (men_of_ranks 8 (field text))) (fields_fault text) (state_fault (position_of text)) (counters_fault text)
          (ap board_fault (board_of p) ∙ board_none (ranks_text men 8) (men_down men 8) board)
          (ap (λ (xs : List ℕ). men_fault (men_of_ranks 8 xs)) (board_of p) ∙ ap men_fault board.says ∙ none.0)
          (fields_none p known.sound)
          (ap state_fault (position_read p) ∙ none.1)
          (counters_none p);
      position = subst (λ (q : Position). IsImage Same p q) (sym (position_read p)) is;
      halfmove = rw last refl;
      fullmove = rw last refl;
    }
