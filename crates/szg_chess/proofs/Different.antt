-- No move is listed twice.
use Rattle.std.proofs.Common.{◌≡◌, ◌≢◌, ℕ, ◌+◌, List, [], ◌∷◌, ◌++◌, get_or, zero, suc, refl, sym, ap, ◌∙◌, Bool, true, false, arith, inl, inr, Contains, Option, Some, None}
use Rattle.std.specs.Prelude.{filter, flat_map, not, ◌==◌}
use Rattle.std.specs.List.{list_any, All, range_with_len}
use Rattle.std.proofs.lemmas.Bool.{cases_Bool, and_parts, eq-eqb, eqb-false, not-true, both_ways}
use Rattle.std.proofs.lemmas.List.Elements.{All-nil, All-cons, All-head, All-tail, All-append, All-filter, All-weaker}
use Rattle.std.proofs.lemmas.List.FromFn.{length-range_with_len, get_or-range_with_len}
use Rattle.szg_values.specs.Men.{is_color, other_color}
use Rattle.szg_values.specs.Placement.{PlacedMan, has_distinct_squares}
use Rattle.szg_values.specs.declared.Man.{Man}
use Rattle.szg_values.specs.declared.Man.TheVariants.{Queen, Rook, Bishop, Knight}
use Rattle.szg_chess.specs.declared.Move.{Move}
use Rattle.szg_chess.specs.Attacks.{attacks, is_occupied}
use Rattle.szg_chess.specs.Position.{Position, IsPosition}
use Rattle.szg_chess.specs.Moves.{men_of, promotes, moves_to, moves_if, may_pass, en_passant_moves, captures_by, captures_of, may_enter, all_squares, quiet_moves_by, quiet_moves_of, moves_of, is_square, is_legal, legal_moves, is_capture}
use Rattle.szg_chess.specs.Laws.{AreDifferent}
use Rattle.szg_chess.proofs.Facts.{IsFaultless, faultless}
use Rattle.szg_chess.proofs.Squares.{all_is}
use Rattle.szg_chess.proofs.Members.{All-flat_map, All-passing, any_of, none_of}
use Rattle.szg_chess.proofs.MoveFacts.{Captures, Enters, Made, all_captures, all_quiet}
use Rattle.szg_chess.proofs.AfterMove.{square_empty}
use Rattle.szg_chess.proofs.Captured.{made_capture, made_quiet}

-- ---- lists

differ_append : {A : Type 0} (xs ys : List A) → AreDifferent xs → AreDifferent ys → All (λ x. All (λ y. x ≢ y) ys) xs → AreDifferent (xs ++ ys)
differ_append [] ys a b cross = b
differ_append {A} (x ∷ xs) ys a b cross =
    let Q : A → Type 0 = λ z. All (λ y. z ≢ y) ys in
    (All-append (λ y. x ≢ y) xs ys a.0 (All-head Q x xs cross), differ_append xs ys a.1 b (All-tail Q x xs cross))

differ_filter : {A : Type 0} (test : A → Bool) (xs : List A) → AreDifferent xs → AreDifferent (filter test xs)
differ_filter test [] a = a
differ_filter test (x ∷ xs) a = elim (cases_Bool (test x)) [
  | inl t ↦ rw t (All-filter test (λ y. x ≢ y) xs a.0, differ_filter test xs a.1)
  | inr f ↦ rw f (differ_filter test xs a.1)
]

-- the elements' keys differ
abbrev pub KeysDiffer : {X : Type 0} → (X → ℕ) → List X → Type 0
KeysDiffer k [] = Unit {0}
KeysDiffer k (x ∷ xs) = All (λ y. k x ≢ k y) xs × KeysDiffer k xs

pub keys_filter : {X : Type 0} (k : X → ℕ) (test : X → Bool) (xs : List X) → KeysDiffer k xs → KeysDiffer k (filter test xs)
keys_filter k test [] a = a
keys_filter k test (x ∷ xs) a = elim (cases_Bool (test x)) [
  | inl t ↦ rw t (All-filter test (λ y. k x ≢ k y) xs a.0, keys_filter k test xs a.1)
  | inr f ↦ rw f (keys_filter k test xs a.1)
]

abbrev pub square_of : PlacedMan → ℕ
square_of s = s.2

pub keys_men : (men : List PlacedMan) → has_distinct_squares men ≡ true → KeysDiffer square_of men
keys_men [] e = tt
keys_men (s ∷ men) e =
    let parts = and_parts (not (list_any (λ t. s.2 == t.2) men)) (has_distinct_squares men) e in
    let none = none_of (λ (t : PlacedMan). s.2 == t.2) men (not-true (list_any (λ t. s.2 == t.2) men) parts.0) in
    ((λ i d h. eqb-false s.2 (get_or men i d).2 (none i d h)), keys_men men parts.1)

abbrev itself : ℕ → ℕ
itself n = n

keys_range : (a n : ℕ) → KeysDiffer itself (range_with_len a n)
keys_range a zero = tt
keys_range a (suc n) = ((λ i d h e. let size = length-range_with_len (a + 1) n in let at = get_or-range_with_len (a + 1) n i d (omega (arith, size)) in omega (arith, at, e)), keys_range (a + 1) n)

keys_at : (n : ℕ) → n ≡ 64 → KeysDiffer itself all_squares
keys_at n e = rw (all_is n e) (keys_range 0 n)

-- pieces whose elements have the key of what they are made of
differ_flat_map : {X A : Type 0} (f : X → List A) (key : A → ℕ) (k : X → ℕ) (xs : List X) → KeysDiffer k xs → All (λ x. AreDifferent (f x) × All (λ a. key a ≡ k x) (f x)) xs → AreDifferent (flat_map f xs)
differ_flat_map f key k [] keys all = tt
differ_flat_map {X} {A} f key k (x ∷ xs) keys all =
    let P : X → Type 0 = λ y. AreDifferent (f y) × All (λ a. key a ≡ k y) (f y) in
    let here = All-head P x xs all in let more = All-tail P x xs all in
    let rest = flat_map f xs in
    let others : All (λ b. key b ≢ k x) rest = All-flat_map f (λ b. key b ≢ k x) xs (λ i d h.
    let y = get_or xs i d in
    All-weaker (λ b. key b ≡ k y) (λ b. key b ≢ k x) (λ b e same. keys.0 i d h (sym same ∙ e)) (f y) (more i d h).1) in
    let cross : All (λ a. All (λ b. a ≢ b) rest) (f x) = All-weaker (λ a. key a ≡ k x) (λ a. All (λ b. a ≢ b) rest) (λ a e. All-weaker (λ b. key b ≢ k x) (λ b. a ≢ b) (λ b differs same. differs (ap key (sym same) ∙ e)) rest others) (f x) here.1 in
    differ_append (f x) rest here.0 (differ_flat_map f key k xs keys.1 more) cross

-- ---- the moves of a man to a square

abbrev from_of : Move → ℕ
from_of m = m.from

abbrev to_of : Move → ℕ
to_of m = m.to

each_to : (P : Move → Type 0) (s : PlacedMan) (to : ℕ) → ((o : Option Man) → P (record { from = s.2; to = to; promotion = o })) → All P (moves_to s to)
each_to P s to all =
    let move : Option Man → Move = λ o. record { from = s.2; to = to; promotion = o } in
    elim (cases_Bool (promotes s to)) [
      | inl t ↦ rw t (All-cons P (move (Some Queen)) (move (Some Rook) ∷ move (Some Bishop) ∷ move (Some Knight) ∷ []) (all (Some Queen))
          (All-cons P (move (Some Rook)) (move (Some Bishop) ∷ move (Some Knight) ∷ []) (all (Some Rook))
          (All-cons P (move (Some Bishop)) (move (Some Knight) ∷ []) (all (Some Bishop))
          (All-cons P (move (Some Knight)) [] (all (Some Knight)) (All-nil P)))))
      | inr f ↦ rw f (All-cons P (move None) [] (all None) (All-nil P))
    ]

each_if : (P : Move → Type 0) (b : Bool) (s : PlacedMan) (to : ℕ) → (b ≡ true → (o : Option Man) → P (record { from = s.2; to = to; promotion = o })) → All P (moves_if b s to)
each_if P true s to all = each_to P s to (all refl)
each_if P false s to all = All-nil P

differ_to : (s : PlacedMan) (to : ℕ) → AreDifferent (moves_to s to)
differ_to s to =
    let move : Man → Move = λ man. record { from = s.2; to = to; promotion = Some man } in
    let piece : Move → Option Man = λ m. m.promotion in
    let N : Move → Move → Type 0 = λ a b. a ≢ b in
    let qr : move Queen ≢ move Rook = λ e. let h : Some Queen ≡ Some Rook = ap piece e in cc in
    let qb : move Queen ≢ move Bishop = λ e. let h : Some Queen ≡ Some Bishop = ap piece e in cc in
    let qn : move Queen ≢ move Knight = λ e. let h : Some Queen ≡ Some Knight = ap piece e in cc in
    let rb : move Rook ≢ move Bishop = λ e. let h : Some Rook ≡ Some Bishop = ap piece e in cc in
    let rn : move Rook ≢ move Knight = λ e. let h : Some Rook ≡ Some Knight = ap piece e in cc in
    let bn : move Bishop ≢ move Knight = λ e. let h : Some Bishop ≡ Some Knight = ap piece e in cc in
    elim (cases_Bool (promotes s to)) [
      | inl t ↦ rw t (
        All-cons (N (move Queen)) (move Rook) (move Bishop ∷ move Knight ∷ []) qr (All-cons (N (move Queen)) (move Bishop) (move Knight ∷ []) qb (All-cons (N (move Queen)) (move Knight) [] qn (All-nil (N (move Queen))))),
        ((
          All-cons (N (move Rook)) (move Bishop) (move Knight ∷ []) rb (All-cons (N (move Rook)) (move Knight) [] rn (All-nil (N (move Rook)))),
          (All-cons (N (move Bishop)) (move Knight) [] bn (All-nil (N (move Bishop))), (All-nil (N (move Knight)), tt)),
        )),
      )
      | inr f ↦ rw f (All-nil (N (record { from = s.2; to = to; promotion = None })), tt)
    ]

differ_if : (b : Bool) (s : PlacedMan) (to : ℕ) → AreDifferent (moves_if b s to)
differ_if true s to = differ_to s to
differ_if false s to = tt

-- ---- captures

differ_en_passant : (men : List PlacedMan) (o : Option ℕ) (s : PlacedMan) → AreDifferent (en_passant_moves men o s)
differ_en_passant men None s = tt
differ_en_passant men (Some square) s = differ_if (may_pass men s square) s square

each_en_passant : (P : Move → Type 0) (men : List PlacedMan) (o : Option ℕ) (s : PlacedMan) → ((square : ℕ) (piece : Option Man) → is_square o square ≡ true → P (record { from = s.2; to = square; promotion = piece })) → All P (en_passant_moves men o s)
each_en_passant P men None s all = All-nil P
each_en_passant P men (Some square) s all = each_if P (may_pass men s square) s square (λ _ piece. all square piece (eq-eqb square square refl))

abbrev takes_by : Position → PlacedMan → PlacedMan → List Move
takes_by p s t = moves_if (attacks p.placed_men s t.2) s t.2

differ_captures_by : (p : Position) (s : PlacedMan) → IsFaultless p → AreDifferent (captures_by p s)
differ_captures_by p s known =
    let men = p.placed_men in let o = p.en_passant in
    let foe : PlacedMan → Bool = λ t. is_color (other_color p.mover) t.1 in
    let enemies = men_of (other_color p.mover) men in
    let first = flat_map (takes_by p s) enemies in let last = en_passant_moves men o s in
    let Foe : PlacedMan → Type 0 = λ t. Contains men t × (foe t ≡ true) in
    let On : Move → Type 0 = λ m. is_occupied men m.to ≡ true in
    let occupied : All On first = All-flat_map (takes_by p s) On enemies (All-weaker Foe (λ t. All On (takes_by p s t)) (λ t held.
    each_if On (attacks men s t.2) s t.2 (λ _ piece. any_of (λ (u : PlacedMan). u.2 == t.2) men t held.0 (eq-eqb t.2 t.2 refl))) enemies (All-passing foe men)) in
    let Off : Move → Type 0 = λ m. is_occupied men m.to ≡ false in
    let empty : All Off last = each_en_passant Off men o s (λ square piece here. square_empty p.mover men o square known.sound here) in
    let cross : All (λ a. All (λ b. a ≢ b) last) first = All-weaker On (λ a. All (λ b. a ≢ b) last) (λ a on. All-weaker Off (λ b. a ≢ b) (λ b off same. both_ways (is_occupied men b.to) off (ap (λ (m : Move). is_occupied men m.to) (sym same) ∙ on)) last empty) first occupied in
    differ_append first last (differ_flat_map (takes_by p s) to_of square_of enemies (keys_filter square_of foe men (keys_men men known.apart))
    (λ i d h. let t = get_or enemies i d in (differ_if (attacks men s t.2) s t.2, each_if (λ m. to_of m ≡ t.2) (attacks men s t.2) s t.2 (λ _ piece. refl))))
    (differ_en_passant men o s) cross

from_captures_by : (p : Position) (s : PlacedMan) → All (λ m. from_of m ≡ s.2) (captures_by p s)
from_captures_by p s =
    let P : Move → Type 0 = λ m. from_of m ≡ s.2 in
    let enemies = men_of (other_color p.mover) p.placed_men in
    All-append P (flat_map (takes_by p s) enemies) (en_passant_moves p.placed_men p.en_passant s)
    (All-flat_map (takes_by p s) P enemies (λ i d h. let t = get_or enemies i d in each_if P (attacks p.placed_men s t.2) s t.2 (λ _ piece. refl)))
    (each_en_passant P p.placed_men p.en_passant s (λ square piece here. refl))

differ_captures : (p : Position) → IsFaultless p → AreDifferent (captures_of p)
unfolding captures_of
differ_captures p known =
    let own : PlacedMan → Bool = λ s. is_color p.mover s.1 in let men = men_of p.mover p.placed_men in
    differ_flat_map (captures_by p) from_of square_of men (keys_filter square_of own p.placed_men (keys_men p.placed_men known.apart))
    (λ i d h. let s = get_or men i d in (differ_captures_by p s known, from_captures_by p s))

-- ---- moves to empty squares

abbrev enters_by : List PlacedMan → PlacedMan → ℕ → List Move
enters_by men s to = moves_if (may_enter men s to) s to

differ_quiet_by : (men : List PlacedMan) (s : PlacedMan) → AreDifferent (quiet_moves_by men s)
differ_quiet_by men s = differ_flat_map (enters_by men s) to_of itself all_squares (keys_at 64 refl)
    (λ i d h. let to = get_or all_squares i d in (differ_if (may_enter men s to) s to, each_if (λ m. to_of m ≡ to) (may_enter men s to) s to (λ _ piece. refl)))

from_quiet_by : (men : List PlacedMan) (s : PlacedMan) → All (λ m. from_of m ≡ s.2) (quiet_moves_by men s)
from_quiet_by men s = All-flat_map (enters_by men s) (λ m. from_of m ≡ s.2) all_squares (λ i d h. let to = get_or all_squares i d in each_if (λ m. from_of m ≡ s.2) (may_enter men s to) s to (λ _ piece. refl))

differ_quiet : (p : Position) → IsFaultless p → AreDifferent (quiet_moves_of p)
unfolding quiet_moves_of
differ_quiet p known =
    let own : PlacedMan → Bool = λ s. is_color p.mover s.1 in let men = men_of p.mover p.placed_men in
    differ_flat_map (quiet_moves_by p.placed_men) from_of square_of men (keys_filter square_of own p.placed_men (keys_men p.placed_men known.apart))
    (λ i d h. let s = get_or men i d in (differ_quiet_by p.placed_men s, from_quiet_by p.placed_men s))

pub different_law : (p : Position) → IsPosition p → AreDifferent (legal_moves p)
different_law p position =
    let known = faultless p position.no_fault in
    let captures = captures_of p in let quiet = quiet_moves_of p in
    let yes = All-weaker (Made p (Captures p)) (λ m. is_capture p m ≡ true) (made_capture p) captures (all_captures p) in
    let none = All-weaker (Made p (Enters p)) (λ m. is_capture p m ≡ false) (made_quiet p known) quiet (all_quiet p) in
    let cross : All (λ a. All (λ b. a ≢ b) quiet) captures = All-weaker (λ (m : Move). is_capture p m ≡ true) (λ a. All (λ b. a ≢ b) quiet) (λ a t. All-weaker (λ (m : Move). is_capture p m ≡ false) (λ b. a ≢ b) (λ b f same. both_ways (is_capture p b) f (ap (is_capture p) (sym same) ∙ t)) quiet none) captures yes in
    differ_filter (is_legal p) (moves_of p) (differ_append captures quiet (differ_captures p known) (differ_quiet p known) cross)
