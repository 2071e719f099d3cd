-- Two kings alone: neither is ever in check, so the game is drawn.
use Rattle.std.proofs.Common.{◌≡◌, ℕ, zero, suc, ◌+◌, ◌≤◌, List, [], ◌∷◌, length, refl, sym, ap, ◌∙◌, subst, Bool, true, false, arith, inl, inr, None}
use Rattle.std.specs.Prelude.{filter, not, ◌&&◌, ◌==◌, nat_le}
use Rattle.std.proofs.lemmas.Bool.{cases_Bool, and_parts, and_from, eqb-false, ne_eqb, false_from_ne_true, both_ways, not-true, not_from_false}
use Rattle.std.proofs.lemmas.List.Sums.{length-filter}
use Rattle.szg_values.specs.Men.{is_man, is_color, other_color}
use Rattle.szg_values.specs.Placement.{PlacedMan}
use Rattle.szg_values.specs.declared.Man.{Man}
use Rattle.szg_values.specs.declared.Man.TheVariants.{Pawn, Knight, Bishop, Rook, Queen, King}
use Rattle.szg_values.specs.declared.Color.{Color}
use Rattle.szg_values.specs.declared.Color.TheVariants.{White, Black}
use Rattle.szg_chess.specs.declared.Move.{Move}
use Rattle.szg_chess.specs.Attacks.{distance, files_apart, ranks_apart, is_king_step, attacks, is_attacked, is_in_check}
use Rattle.szg_chess.specs.Position.{Position, IsPosition}
use Rattle.szg_chess.specs.Moves.{after, legal_moves, is_capture, is_check}
use Rattle.szg_chess.proofs.Facts.{IsFaultless, faultless, has_men_parts}
use Rattle.szg_chess.proofs.Members.{any_of, some_of}
use Rattle.szg_chess.proofs.AfterMove.{twice, after_is_position}
use Rattle.szg_chess.proofs.Captured.{captured_law}
use Rattle.szg_game.specs.Game.{mate, wins, loses, is_empty}
use Rattle.szg_game.specs.declared.Class.TheVariants.{Draw}
use Rattle.szg_game.proofs.Steps.{wins_parts, wins_not_zero, loses_parts, loses_zero}
use Rattle.szg_game.proofs.Lists.{IsIn, contains_in, in_contains, map_in, first_in}
use Rattle.szg_probe.specs.Chess.{step_of, chess, ChessClass}

-- ---- both men are kings

abbrev is_king : PlacedMan → Bool
is_king s = is_man King s.0

abbrev is_king_of : Color → PlacedMan → Bool
is_king_of color s = is_man King s.0 && is_color color s.1

kings_by_color : (men : List PlacedMan) → length (filter (is_king_of White) men) + length (filter (is_king_of Black) men) ≡ length (filter is_king men)
kings_by_color [] = refl
kings_by_color ((man, White, square) ∷ men) = let rest = kings_by_color men in elim (cases_Bool (is_man King man)) [ inl t ↦ rw t (omega arith) | inr f ↦ rw f rest ]
kings_by_color ((man, Black, square) ∷ men) = let rest = kings_by_color men in elim (cases_Bool (is_man King man)) [ inl t ↦ rw t (omega arith) | inr f ↦ rw f rest ]

pub filter_at_most : {A : Type 0} (t : A → Bool) (xs : List A) → length (filter t xs) ≤ length xs
filter_at_most t [] = omega arith
filter_at_most t (x ∷ xs) = let rest = filter_at_most t xs in elim (cases_Bool (t x)) [ inl e ↦ rw e (omega arith) | inr e ↦ rw e (omega arith) ]

pub each_of_full : {A : Type 0} (t : A → Bool) (xs : List A) → length (filter t xs) ≡ length xs → (x : A) → IsIn xs x → t x ≡ true
each_of_full t [] full x i = absurd i
each_of_full t (y ∷ ys) full x i = elim (cases_Bool (t y)) [
  | inl e ↦ (let rest = rw e at full in let less : length (filter t ys) ≡ length ys = omega arith in elim i [ inl same ↦ sym (ap t same) ∙ e | inr j ↦ each_of_full t ys less x j ])
  | inr e ↦ (let rest = rw e at full in let most = filter_at_most t ys in absurd (omega arith))
]

each_king : (p : Position) → IsFaultless p → length p.placed_men ≡ 2 → (s : PlacedMan) → IsIn p.placed_men s → is_king s ≡ true
each_king p known two s i =
    let men = has_men_parts p.placed_men known.men in
    let white = length-filter (is_king_of White) p.placed_men in
    let black = length-filter (is_king_of Black) p.placed_men in
    let one_white = men.white in
    let one_black = men.black in
    let both = kings_by_color p.placed_men in
    each_of_full is_king p.placed_men (omega arith) s i

-- ---- no check

king_is : (man : Man) → is_man King man ≡ true → King ≡ man
king_is Pawn e = cc
king_is Knight e = cc
king_is Bishop e = cc
king_is Rook e = cc
king_is Queen e = cc
king_is King e = refl

distance_turns : (a b : ℕ) → distance a b ≡ distance b a
distance_turns a b = omega arith

king_step_turns : (a b : ℕ) → is_king_step a b ≡ true → is_king_step b a ≡ true
king_step_turns a b e =
    let parts = and_parts (not (a == b) && nat_le (files_apart a b) 1) (nat_le (ranks_apart a b) 1) e in
    let more = and_parts (not (a == b)) (nat_le (files_apart a b) 1) parts.0 in
    let differ = eqb-false a b (not-true (a == b) more.0) in
    and_from (not (b == a) && nat_le (files_apart b a) 1) (nat_le (ranks_apart b a) 1)
    (and_from (not (b == a)) (nat_le (files_apart b a) 1) (not_from_false (b == a) (ne_eqb b a (λ same. differ (sym same)))) (ap (λ (n : ℕ). nat_le n 1) (distance_turns _ _) ∙ more.1))
    (ap (λ (n : ℕ). nat_le n 1) (distance_turns _ _) ∙ parts.1)

king_attacks : (men : List PlacedMan) (s : PlacedMan) (to : ℕ) → is_king s ≡ true → attacks men s to ≡ is_king_step s.2 to
unfolding attacks
king_attacks men s to e = go s.0 s.1 s.2 e
  where
    go : (man : Man) (color : Color) (from : ℕ) → is_man King man ≡ true → attacks men (man, color, from) to ≡ is_king_step from to
    go Pawn color from e = cc
    go Knight color from e = cc
    go Bishop color from e = cc
    go Rook color from e = cc
    go Queen color from e = cc
    go King color from e = refl

no_check : (p : Position) → IsPosition p → length p.placed_men ≡ 2 → is_check p ≡ false
no_check p position two = false_from_ne_true (is_check p) (λ e.
    let men = p.placed_men in
    let other = other_color p.mover in
    let known = faultless p position.no_fault in
    let found = some_of (λ (s : PlacedMan). is_man King s.0 && is_color p.mover s.1 && is_attacked men other s.2) men e in
    let s = found.0 in
    let facts = and_parts (is_man King s.0 && is_color p.mover s.1) (is_attacked men other s.2) found.1.1 in
    let own = and_parts (is_man King s.0) (is_color p.mover s.1) facts.0 in
    let from = some_of (λ (t : PlacedMan). is_color other t.1 && attacks men t s.2) men facts.1 in
    let t = from.0 in
    let there = and_parts (is_color other t.1) (attacks men t s.2) from.1.1 in
    let king = each_king p known two t (in_contains men t from.1.0) in
    let back : attacks men s t.2 ≡ true = king_attacks men s t.2 own.0 ∙ king_step_turns t.2 s.2 (sym (king_attacks men t s.2 king) ∙ there.1) in
    let attacked : is_attacked men (other_color other) t.2 ≡ true = any_of (λ (u : PlacedMan). is_color (other_color other) u.1 && attacks men u t.2) men s found.1.0
    (and_from (is_color (other_color other) s.1) (attacks men s t.2) (ap (λ (c : Color). is_color c s.1) (twice p.mover) ∙ own.1) back) in
    both_ways (is_in_check men other) known.safe
    (any_of (λ (u : PlacedMan). is_man King u.0 && is_color other u.1 && is_attacked men (other_color other) u.2) men t from.1.0
    (and_from (is_man King t.0 && is_color other t.1) (is_attacked men (other_color other) t.2) (and_from (is_man King t.0) (is_color other t.1) king there.0) attacked)))

-- ---- no end

pub record TwoKings (p : Position) : Type 0 where
  pub position : IsPosition p
  pub two : length p.placed_men ≡ 2

-- a legal move takes no man, since two are left
pub kings_after : (p : Position) → TwoKings p → (m : Move) → IsIn (legal_moves p) m → (is_capture p m ≡ false) × TwoKings (after p m)
kings_after p kings m i =
    let held = contains_in (legal_moves p) m i in
    let position = after_is_position p m kings.position held in
    let taken = captured_law p m kings.position held in
    let men = has_men_parts (after p m).placed_men (faultless (after p m) position.no_fault).men in
    let many = men.many in
    let two = kings.two in
    elim (cases_Bool (is_capture p m)) [
      | inl t ↦ (let fewer = rw t at taken in absurd (omega arith))
      | inr f ↦ (let same = rw f at taken in (f, record { position = position; two = omega arith }))
    ]

no_mate : (p : Position) → TwoKings p → mate chess p ≡ true → ⊥
no_mate p kings e = both_ways (is_check p) (no_check p kings.position kings.two) (and_parts (is_empty (chess.moves p)) (is_check p) e).1

kings_move : (p : Position) → TwoKings p → (x : Position × Bool) → IsIn (chess.moves p) x → TwoKings x.0
kings_move p kings x i =
    let r = map_in (step_of p) (legal_moves p) x i in
    subst TwoKings (ap (λ (y : Position × Bool). y.0) r.2) (kings_after p kings r.0 r.1).1

mutual
  never_wins : (n c : ℕ) (p : Position) → TwoKings p → wins chess None n c p ≡ true → ⊥
  never_wins zero c p kings h = wins_not_zero chess None c p h
  never_wins (suc n) c p kings h =
      let r = wins_parts chess None n c p h in
      let next = kings_move p kings r.0 r.1 in
      elim r.2 [ inl e ↦ no_mate r.0.0 next e | inr e ↦ never_loses n _ r.0.0 next e.1 ]

  never_loses : (n c : ℕ) (p : Position) → TwoKings p → loses chess None n c p ≡ true → ⊥
  never_loses zero c p kings h = no_mate p kings (loses_zero chess None c p h)
  never_loses (suc n) c p kings h = elim (loses_parts chess None n c p h) [
    | inl e ↦ no_mate p kings e
    | inr e ↦ (let m = first_in (chess.moves p) e.0 in never_wins n _ m.0.0 (kings_move p kings m.0 m.1) (e.1 m.0 m.1).1)
  ]

pub kings_draw : (p : Position) → TwoKings p → ChessClass p Draw
kings_draw p kings = (λ w. never_wins w.0 0 p kings w.1, λ l. never_loses l.0 0 p kings l.1)
