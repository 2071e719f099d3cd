-- Which moves capture, and that a capture takes one man.
use Rattle.std.proofs.Common.{◌≡◌, ◌≢◌, ℕ, ◌+◌, List, [], ◌∷◌, ◌++◌, length, get_or, refl, sym, ap, ◌∙◌, subst, Bool, true, false, arith, inl, inr, Contains}
use Rattle.std.specs.Prelude.{filter, not, ◌&&◌, ◌==◌, if◌then◌else◌}
use Rattle.std.specs.List.{list_any, All}
use Rattle.std.proofs.lemmas.Bool.{and_parts, and_from, and_right, or_left, or_right, or_from, eq-eqb, eqb-false, ne_eqb, not-true, not_from_true, not_from_false}
use Rattle.std.proofs.lemmas.List.{length-map, append-nil}
use Rattle.std.proofs.lemmas.List.Elements.{All-head, All-tail, All-weaker, All-contains, All-contains_itself, Contains-append_left, All-filter, filter-append}
use Rattle.std.proofs.lemmas.List.Folds.{list_any_none}
use Rattle.szg_values.specs.Men.{is_color, other_color}
use Rattle.szg_values.specs.Placement.{PlacedMan, has_distinct_squares}
use Rattle.szg_chess.specs.declared.Move.{Move}
use Rattle.szg_chess.specs.Position.{Position, IsPosition}
use Rattle.szg_chess.specs.Moves.{captures_of, quiet_moves_of, is_en_passant, captured_square, man_after, men_after, after, is_legal, legal_moves, legal_captures, is_capture}
use Rattle.szg_chess.proofs.Facts.{IsFaultless, faultless}
use Rattle.szg_chess.proofs.Members.{any_of, none_of, contains_cons}
use Rattle.szg_chess.proofs.AfterMen.{is_off, off_from}
use Rattle.szg_chess.proofs.MoveFacts.{Takes, Enters, Captures, Made, all_captures, all_quiet, legal_move}
use Rattle.szg_chess.proofs.AfterMove.{nobody, entered_empty, entering_plain, taking_plain, plain_capture, pass_is, victim}

-- an enemy man is on the square that the man goes to
abbrev pub takes_enemy : Position → Move → Bool
takes_enemy p m = list_any (λ s. is_color (other_color p.mover) s.1 && s.2 == m.to) p.placed_men

pub capture_takes : (p : Position) (m : Move) (s : PlacedMan) → Takes p s m.to → is_capture p m ≡ true
capture_takes p m s takes =
    or_left (takes_enemy p m) (is_en_passant p m) (any_of (λ (u : PlacedMan). is_color (other_color p.mover) u.1 && u.2 == m.to) p.placed_men takes.taken takes.stands
    (and_from (is_color (other_color p.mover) takes.taken.1) (takes.taken.2 == m.to) takes.enemy (eq-eqb takes.taken.2 m.to (sym takes.there))))

pub capture_passes : (p : Position) (m : Move) (s : PlacedMan) → is_en_passant p m ≡ true → is_capture p m ≡ true
capture_passes p m s e = or_right (takes_enemy p m) (is_en_passant p m) e

pub capture_enters : (p : Position) (m : Move) (s : PlacedMan) → IsFaultless p → Contains p.placed_men s → m.from ≡ s.2 → Enters p s m.to → is_capture p m ≡ false
capture_enters p m s known stands from_is enters =
    let none = nobody p.placed_men m.to (entered_empty p.placed_men s m.to enters.may) in
    or_from (takes_enemy p m) (is_en_passant p m)
    (list_any_none (λ (u : PlacedMan). is_color (other_color p.mover) u.1 && u.2 == m.to) p.placed_men (λ k d h.
    let u = get_or p.placed_men k d in and_right (is_color (other_color p.mover) u.1) (u.2 == m.to) (ne_eqb u.2 m.to (none k d h))))
    (entering_plain p m s known stands from_is enters)

pub made_capture : (p : Position) (m : Move) → Made p (Captures p) m → is_capture p m ≡ true
made_capture p m made = elim made.way [
  | inl takes ↦ capture_takes p m made.man takes
  | inr passes ↦ capture_passes p m made.man (pass_is p m made.man made.stands made.own made.from_is passes)
]

pub made_quiet : (p : Position) → IsFaultless p → (m : Move) → Made p (Enters p) m → is_capture p m ≡ false
made_quiet p known m made = capture_enters p m made.man known made.stands made.from_is made.way

pub filter_all : {X : Type 0} (test : X → Bool) (xs : List X) → All (λ x. test x ≡ true) xs → filter test xs ≡ xs
filter_all test [] all = refl
filter_all {X} test (x ∷ xs) all = let P : X → Type 0 = λ y. test y ≡ true in rw (All-head P x xs all) (ap (λ (ys : List X). x ∷ ys) (filter_all test xs (All-tail P x xs all)))

pub filter_none : {X : Type 0} (test : X → Bool) (xs : List X) → All (λ x. test x ≡ false) xs → filter test xs ≡ []
filter_none test [] all = refl
filter_none {X} test (x ∷ xs) all = let P : X → Type 0 = λ y. test y ≡ false in rw (All-head P x xs all) (filter_none test xs (All-tail P x xs all))

pub captures_law : (p : Position) → IsPosition p → filter (is_capture p) (legal_moves p) ≡ legal_captures p
captures_law p position =
    let known = faultless p position.no_fault in
    let yes = All-filter (is_legal p) (λ (m : Move). is_capture p m ≡ true) (captures_of p) (All-weaker (Made p (Captures p)) (λ m. is_capture p m ≡ true) (made_capture p) (captures_of p) (all_captures p)) in
    let none = All-filter (is_legal p) (λ (m : Move). is_capture p m ≡ false) (quiet_moves_of p) (All-weaker (Made p (Enters p)) (λ m. is_capture p m ≡ false) (made_quiet p known) (quiet_moves_of p) (all_quiet p)) in
    let quiet = filter (is_legal p) (quiet_moves_of p) in
    ap (filter (is_capture p)) (filter-append (is_legal p) (captures_of p) (quiet_moves_of p))
    ∙ filter-append (is_capture p) (legal_captures p) quiet
    ∙ ap (λ (ys : List Move). ys ++ filter (is_capture p) quiet) (filter_all (is_capture p) (legal_captures p) yes)
    ∙ ap (λ (ys : List Move). legal_captures p ++ ys) (filter_none (is_capture p) quiet none)
    ∙ append-nil (legal_captures p)

-- a legal capture is a legal move
pub captures_legal : (p : Position) → All (Contains (legal_moves p)) (legal_captures p)
captures_legal p =
    let split = filter-append (is_legal p) (captures_of p) (quiet_moves_of p) in
    All-weaker (Contains (legal_captures p)) (Contains (legal_moves p)) (λ m held. subst (λ (ms : List Move). Contains ms m) (sym split) (Contains-append_left (legal_captures p) (filter (is_legal p) (quiet_moves_of p)) m held)) (legal_captures p) (All-contains_itself (legal_captures p))

-- ---- the number of men

pub all_off : (square : ℕ) (men : List PlacedMan) → All (λ u. u.2 ≢ square) men → length (filter (is_off square) men) ≡ length men
all_off square men off = ap length (filter_all (is_off square) men (All-weaker (λ (u : PlacedMan). u.2 ≢ square) (λ u. is_off square u ≡ true) (off_from square) men off))

one_off : (men : List PlacedMan) → has_distinct_squares men ≡ true → (t : PlacedMan) → Contains men t → length (filter (is_off t.2) men) + 1 ≡ length men
one_off [] apart t held = absurd (omega (arith, held.1))
one_off (x ∷ xs) apart t held =
    let parts = and_parts (not (list_any (λ u. x.2 == u.2) xs)) (has_distinct_squares xs) apart in
    let none = none_of (λ (u : PlacedMan). x.2 == u.2) xs (not-true (list_any (λ u. x.2 == u.2) xs) parts.0) in
    elim (contains_cons x xs t held) [
      | inl same ↦
          let here : is_off t.2 x ≡ false = not_from_true (x.2 == t.2) (eq-eqb x.2 t.2 (ap (λ (u : PlacedMan). u.2) same)) in
          let rest = all_off t.2 xs (λ k d h e. eqb-false x.2 (get_or xs k d).2 (none k d h) (ap (λ (u : PlacedMan). u.2) same ∙ sym e)) in
          rw here (omega (arith, rest))
      | inr more ↦
          let differ : (x.2 == t.2) ≡ false = All-contains (λ (u : PlacedMan). (x.2 == u.2) ≡ false) xs t none more in
          let rest = one_off xs parts.1 t more in
          rw (not_from_false (x.2 == t.2) differ) (omega (arith, rest))
    ]

fewer : (p : Position) (m : Move) → IsFaultless p → (t : PlacedMan) → Contains p.placed_men t → captured_square p m ≡ t.2 → is_capture p m ≡ true → length (men_after p m) + (if is_capture p m then 1 else 0) ≡ length p.placed_men
unfolding men_after
fewer p m known t stands there capture =
    let size = length-map (filter (is_off (captured_square p m)) p.placed_men) (man_after m) in
    let one = ap (λ (square : ℕ). length (filter (is_off square) p.placed_men) + 1) there ∙ one_off p.placed_men known.apart t stands in
    rw capture (omega (arith, size, one))

as_many : (p : Position) (m : Move) → All (λ u. u.2 ≢ captured_square p m) p.placed_men → is_capture p m ≡ false → length (men_after p m) + (if is_capture p m then 1 else 0) ≡ length p.placed_men
unfolding men_after
as_many p m off capture =
    let size = length-map (filter (is_off (captured_square p m)) p.placed_men) (man_after m) in
    let all = all_off (captured_square p m) p.placed_men off in
    rw capture (omega (arith, size, all))

-- nobody is on the square that a man enters
pub enters_off : (p : Position) (m : Move) (s : PlacedMan) → IsFaultless p → Contains p.placed_men s → m.from ≡ s.2 → Enters p s m.to → All (λ u. u.2 ≢ captured_square p m) p.placed_men
enters_off p m s known stands from_is enters = λ k d h e.
    nobody p.placed_men m.to (entered_empty p.placed_men s m.to enters.may) k d h (e ∙ plain_capture p m (entering_plain p m s known stands from_is enters))

pub captured_law : (p : Position) (m : Move) → IsPosition p → Contains (legal_moves p) m → length (after p m).placed_men + (if is_capture p m then 1 else 0) ≡ length p.placed_men
unfolding after
captured_law p m position held =
    let known = faultless p position.no_fault in
    let move = (legal_move p m held).0 in let s = move.man in
    elim move.way [
      | inl takes ↦ fewer p m known takes.taken takes.stands (taking_plain p m s known takes ∙ takes.there) (capture_takes p m s takes)
      | inr other ↦ elim other [
        | inl passes ↦ let taken = victim p m s known move.stands move.own move.from_is passes in fewer p m known taken.pawn taken.stands taken.there (capture_passes p m s (pass_is p m s move.stands move.own move.from_is passes))
        | inr enters ↦ as_many p m (enters_off p m s known move.stands move.from_is enters) (capture_enters p m s known move.stands move.from_is enters)
      ]
    ]
