-- A position without its right to capture en passant: its moves are the other moves.
use Rattle.std.proofs.Common.{◌≡◌, ℕ, List, [], ◌∷◌, ◌++◌, map, refl, sym, ap, ◌∙◌, subst, Bool, true, false, inl, inr, Option, Some, None, Contains}
use Rattle.std.specs.Prelude.{filter, flat_map, not, ◌&&◌, ◌==◌, if◌then◌else◌}
use Rattle.std.proofs.lemmas.Bool.{and_parts, eq-eqb, eqb-true, false_from_ne_true, not_from_false, not_from_true, not-true, both_ways}
use Rattle.std.proofs.lemmas.List.Elements.{filter-append}
use Rattle.szg_values.specs.Men.{is_color, other_color, file_of, rank_of, square_at}
use Rattle.szg_values.specs.Placement.{PlacedMan}
use Rattle.szg_values.specs.declared.Man.{Man}
use Rattle.szg_values.specs.declared.Man.TheVariants.{Queen, Rook, Bishop, Knight, Pawn}
use Rattle.szg_values.specs.declared.Color.{Color}
use Rattle.szg_values.specs.declared.Color.TheVariants.{White, Black}
use Rattle.szg_chess.specs.declared.Move.{Move}
use Rattle.szg_chess.specs.Attacks.{attacks, is_occupied}
use Rattle.szg_chess.specs.Position.{Position, IsPosition, was_passed, is_on, has_sound_en_passant}
use Rattle.szg_chess.specs.Moves.{men_of, promotes, moves_if, may_pass, en_passant_moves, captures_by, captures_of, quiet_moves_of, moves_of, is_square, is_en_passant, captured_square, man_after, men_after, after, is_legal, legal_moves, legal_captures, is_capture, is_zeroing}
use Rattle.szg_chess.proofs.Facts.{IsFaultless, faultless, no_fault}
use Rattle.szg_chess.proofs.Members.{any_of}
use Rattle.szg_chess.proofs.MoveFacts.{Enters, Made, all_quiet}
use Rattle.szg_chess.proofs.AfterMove.{pass_is, entering_plain, plain_capture}
use Rattle.szg_chess.proofs.Captured.{captures_law}
use Rattle.szg_game.proofs.Lists.{IsIn, contains_in, in_all}
use Rattle.szg_probe.specs.Chess.{step_of, without_right}
use Rattle.szg_probe.proofs.Choosing.{filter_true, filter_false, in_filter, filter_in, filter_swap, in_flat_map}

-- the move is no capture en passant
abbrev pub is_plain : Position → Move → Bool
is_plain p m = not (is_en_passant p m)

-- ---- the position

faultless_without : (p : Position) → IsFaultless p → IsFaultless (without_right p)
faultless_without p known = record { men = known.men; apart = known.apart; inside = known.inside; safe = known.safe; sound = refl }

pub position_without : (p : Position) → IsPosition p → IsPosition (without_right p)
position_without p position = record {
  no_fault = no_fault (without_right p) (faultless_without p (faultless p position.no_fault));
  squares = record { men = position.squares.men; en_passant = λ x e. cc };
}

-- ---- the square that was passed is empty

passed_empty : (mover : Color) (men : List PlacedMan) (square : ℕ) → was_passed men mover square ≡ true → is_occupied men square ≡ false
passed_empty White men square e =
    let a = and_parts (rank_of square == 5 && not (is_occupied men square) && not (is_occupied men (square_at (file_of square) 6))) (is_on Pawn Black men (square_at (file_of square) 4)) e in
    let b = and_parts (rank_of square == 5 && not (is_occupied men square)) (not (is_occupied men (square_at (file_of square) 6))) a.0 in
    not-true (is_occupied men square) (and_parts (rank_of square == 5) (not (is_occupied men square)) b.0).1
passed_empty Black men square e =
    let a = and_parts (rank_of square == 2 && not (is_occupied men square) && not (is_occupied men (square_at (file_of square) 1))) (is_on Pawn White men (square_at (file_of square) 3)) e in
    let b = and_parts (rank_of square == 2 && not (is_occupied men square)) (not (is_occupied men (square_at (file_of square) 1))) a.0 in
    not-true (is_occupied men square) (and_parts (rank_of square == 2) (not (is_occupied men square)) b.0).1

square_empty : (mover : Color) (men : List PlacedMan) (o : Option ℕ) (square : ℕ) → has_sound_en_passant men mover o ≡ true → is_square o square ≡ true → is_occupied men square ≡ false
square_empty mover men None square sound e = cc
square_empty mover men (Some other) square sound e = ap (is_occupied men) (sym (eqb-true other square e)) ∙ passed_empty mover men other sound

-- ---- the lists of moves

-- where a move of a man to a square goes
record Goes (s : PlacedMan) (to : ℕ) (m : Move) : Type 0 where
  pub from_is : m.from ≡ s.2
  pub to_is : m.to ≡ to

goes_promoted : (s : PlacedMan) (to : ℕ) (pieces : List Man) (m : Move) → IsIn (map (λ piece. record { from = s.2; to = to; promotion = Some piece }) pieces) m → Goes s to m
goes_promoted s to [] m i = absurd i
goes_promoted s to (piece ∷ pieces) m (inl e) = record { from_is = sym (ap (λ (n : Move). n.from) e); to_is = sym (ap (λ (n : Move). n.to) e) }
goes_promoted s to (piece ∷ pieces) m (inr i) = goes_promoted s to pieces m i

goes_by : (b : Bool) (s : PlacedMan) (to : ℕ) (m : Move) →
    IsIn (if b then map (λ piece. record { from = s.2; to = to; promotion = Some piece }) (Queen ∷ Rook ∷ Bishop ∷ Knight ∷ []) else record { from = s.2; to = to; promotion = None } ∷ []) m →
    Goes s to m
goes_by true s to m i = goes_promoted s to (Queen ∷ Rook ∷ Bishop ∷ Knight ∷ []) m i
goes_by false s to m (inl e) = record { from_is = sym (ap (λ (n : Move). n.from) e); to_is = sym (ap (λ (n : Move). n.to) e) }
goes_by false s to m (inr i) = absurd i

goes_if : (b : Bool) (s : PlacedMan) (to : ℕ) (m : Move) → IsIn (moves_if b s to) m → (b ≡ true) × Goes s to m
goes_if true s to m i = (refl, goes_by (promotes s to) s to m i)
goes_if false s to m i = absurd i

-- a capture of a man is none en passant
takes_plain : (p : Position) → IsFaultless p → (s : PlacedMan) (m : Move) →
    IsIn (flat_map (λ t. moves_if (attacks p.placed_men s t.2) s t.2) (men_of (other_color p.mover) p.placed_men)) m → is_en_passant p m ≡ false
unfolding is_en_passant
takes_plain p known s m i =
    let men = p.placed_men in
    let r = in_flat_map (λ (t : PlacedMan). moves_if (attacks men s t.2) s t.2) (men_of (other_color p.mover) men) m i in
    let t = r.0 in
    let held = filter_in (λ (u : PlacedMan). is_color (other_color p.mover) u.1) men t r.1 in
    let goes = (goes_if (attacks men s t.2) s t.2 m r.2).1 in
    let occupied : is_occupied men m.to ≡ true = any_of (λ (u : PlacedMan). u.2 == m.to) men t (contains_in men t held.0) (eq-eqb t.2 m.to (sym goes.to_is)) in
    let no_pass : is_square p.en_passant m.to ≡ false = false_from_ne_true (is_square p.en_passant m.to) (λ e. both_ways (is_occupied men m.to) (square_empty p.mover men p.en_passant m.to known.sound e) occupied) in
    rw no_pass refl

-- the others are
passes_en_passant : (p : Position) (o : Option ℕ) (s : PlacedMan) → p.en_passant ≡ o → Contains p.placed_men s → is_color p.mover s.1 ≡ true → (m : Move) →
    IsIn (en_passant_moves p.placed_men o s) m → is_en_passant p m ≡ true
passes_en_passant p None s is stands own m i = absurd i
passes_en_passant p (Some square) s is stands own m i =
    let r = goes_if (may_pass p.placed_men s square) s square m i in
    let goes = r.1 in
    pass_is p m s stands own goes.from_is (record { passed = is ∙ ap (λ (x : ℕ). Some x) (sym goes.to_is); may = ap (λ (x : ℕ). may_pass p.placed_men s x) goes.to_is ∙ r.0 })

plain_captures_by : (p : Position) → IsFaultless p → (s : PlacedMan) → IsIn (men_of p.mover p.placed_men) s → filter (is_plain p) (captures_by p s) ≡ captures_by (without_right p) s
plain_captures_by p known s i =
    let men = p.placed_men in
    let held = filter_in (λ (u : PlacedMan). is_color p.mover u.1) men s i in
    let takes = flat_map (λ (t : PlacedMan). moves_if (attacks men s t.2) s t.2) (men_of (other_color p.mover) men) in
    let passes = en_passant_moves men p.en_passant s in
    filter-append (is_plain p) takes passes
    ∙ ap (λ (ms : List Move). ms ++ filter (is_plain p) passes) (filter_true (is_plain p) takes (λ m j. not_from_false (is_en_passant p m) (takes_plain p known s m j)))
    ∙ ap (λ (ms : List Move). takes ++ ms) (filter_false (is_plain p) passes (λ m j. not_from_true (is_en_passant p m) (passes_en_passant p p.en_passant s refl (contains_in men s held.0) held.1 m j)))

filter_flat_map : {A B : Type 0} (t : B → Bool) (f g : A → List B) (xs : List A) → ((x : A) → IsIn xs x → filter t (f x) ≡ g x) → filter t (flat_map f xs) ≡ flat_map g xs
filter_flat_map t f g [] each = refl
filter_flat_map {A} {B} t f g (x ∷ xs) each =
    filter-append t (f x) (flat_map f xs)
    ∙ ap (λ (ys : List B). ys ++ filter t (flat_map f xs)) (each x (inl refl))
    ∙ ap (λ (ys : List B). g x ++ ys) (filter_flat_map t f g xs (λ y i. each y (inr i)))

plain_captures : (p : Position) → IsFaultless p → filter (is_plain p) (captures_of p) ≡ captures_of (without_right p)
unfolding captures_of
plain_captures p known = filter_flat_map (is_plain p) (captures_by p) (captures_by (without_right p)) (men_of p.mover p.placed_men) (plain_captures_by p known)

plain_quiet : (p : Position) → IsFaultless p → filter (is_plain p) (quiet_moves_of p) ≡ quiet_moves_of (without_right p)
unfolding quiet_moves_of
plain_quiet p known = filter_true (is_plain p) (quiet_moves_of p) (λ m i.
    let made = in_all (Made p (Enters p)) (quiet_moves_of p) m (all_quiet p) i in
    not_from_false (is_en_passant p m) (entering_plain p m made.man known made.stands made.from_is made.way))

-- ---- after a move

plain_square : (p : Position) (m : Move) → is_plain p m ≡ true → captured_square p m ≡ captured_square (without_right p) m
unfolding is_en_passant
plain_square p m plain = plain_capture p m (not-true (is_en_passant p m) plain) ∙ sym (plain_capture (without_right p) m refl)

plain_men : (p : Position) (m : Move) → is_plain p m ≡ true → men_after p m ≡ men_after (without_right p) m
unfolding men_after
plain_men p m plain = ap (λ (square : ℕ). map (man_after m) (filter (λ (s : PlacedMan). not (s.2 == square)) p.placed_men)) (plain_square p m plain)

pub plain_after : (p : Position) (m : Move) → is_plain p m ≡ true → after p m ≡ after (without_right p) m
unfolding after
plain_after p m plain = cc (plain_men p m plain)

plain_legal : (p : Position) (m : Move) → is_plain p m ≡ true → is_legal p m ≡ is_legal (without_right p) m
unfolding is_legal
plain_legal p m plain = cc (plain_men p m plain)

plain_zeroing : (p : Position) (m : Move) → is_plain p m ≡ true → is_zeroing p m ≡ is_zeroing (without_right p) m
unfolding is_en_passant
plain_zeroing p m plain = cc (not-true (is_en_passant p m) plain)

pub plain_step : (p : Position) (m : Move) → is_plain p m ≡ true → step_of p m ≡ step_of (without_right p) m
plain_step p m plain = cc (plain_after p m plain, plain_zeroing p m plain)

-- ---- legal moves

-- the legal moves without the right are those that are not en passant
pub legal_without : (p : Position) → IsPosition p → legal_moves (without_right p) ≡ filter (is_plain p) (legal_moves p)
legal_without p position =
    let known = faultless p position.no_fault in
    ap (filter (is_legal (without_right p))) (ap (λ (ms : List Move). ms ++ quiet_moves_of (without_right p)) (sym (plain_captures p known))
    ∙ ap (λ (ms : List Move). filter (is_plain p) (captures_of p) ++ ms) (sym (plain_quiet p known)) ∙ sym (filter-append (is_plain p) (captures_of p) (quiet_moves_of p)))
    ∙ filter_swap (is_plain p) (is_legal p) (is_legal (without_right p)) (moves_of p) (plain_legal p)

pub captures_without : (p : Position) → IsPosition p → legal_captures (without_right p) ≡ filter (is_plain p) (legal_captures p)
captures_without p position =
    let known = faultless p position.no_fault in
    ap (filter (is_legal (without_right p))) (sym (plain_captures p known))
    ∙ filter_swap (is_plain p) (is_legal p) (is_legal (without_right p)) (captures_of p) (plain_legal p)

-- a legal capture is a legal move that captures
pub capture_in : (p : Position) → IsPosition p → (m : Move) → IsIn (legal_captures p) m → IsIn (legal_moves p) m × (is_capture p m ≡ true)
capture_in p position m i = filter_in (is_capture p) (legal_moves p) m (subst (λ (ms : List Move). IsIn ms m) (sym (captures_law p position)) i)

pub in_captures : (p : Position) → IsPosition p → (m : Move) → IsIn (legal_moves p) m → is_capture p m ≡ true → IsIn (legal_captures p) m
in_captures p position m i e = subst (λ (ms : List Move). IsIn ms m) (captures_law p position) (in_filter (is_capture p) (legal_moves p) m i e)
