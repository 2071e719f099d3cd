-- How many moves there may be.
use Rattle.std.proofs.Common.{◌≡◌, ℕ, ◌+◌, ◌≤◌, List, length, refl, Bool, true, false, arith, inl, inr, Option, Some, None, ◌⊎◌}
use Rattle.std.specs.Prelude.{◌&&◌, ◌||◌, ◌==◌, not, if◌then◌else◌}
use Rattle.std.proofs.lemmas.Bool.{cases_Bool, and_parts, eqb-true}
use Rattle.std.proofs.lemmas.List.Filters.{length-filter_both}
use Rattle.szg_values.specs.Men.{is_man, is_color, other_color, file_of, rank_of, square_at}
use Rattle.szg_values.specs.Placement.{PlacedMan}
use Rattle.szg_values.specs.declared.Man.TheVariants.{Pawn}
use Rattle.szg_values.specs.declared.Color.{Color}
use Rattle.szg_values.specs.declared.Color.TheVariants.{White, Black}
use Rattle.szg_chess.specs.Attacks.{is_occupied}
use Rattle.szg_chess.specs.Position.{is_on, was_passed, has_sound_en_passant}
use Rattle.szg_chess.specs.Moves.{men_of, promotes, moves_to, moves_if, may_pass, en_passant_moves}

-- ---- captures

pub few_to : (s : PlacedMan) (to : ℕ) → length (moves_to s to) ≤ 4
few_to s to = elim (cases_Bool (promotes s to)) [
  | inl t ↦ rw t (omega arith)
  | inr f ↦ rw f (omega arith)
]

-- the square that a pawn has just passed over is on rank 3 or 6
pub passed_rank : (men : List PlacedMan) (mover : Color) (q : ℕ) → was_passed men mover q ≡ true → (rank_of q ≡ 5) ⊎ (rank_of q ≡ 2)
passed_rank men White q e =
    let a = and_parts (rank_of q == 5 && not (is_occupied men q) && not (is_occupied men (square_at (file_of q) 6))) (is_on Pawn Black men (square_at (file_of q) 4)) e in
    let b = and_parts (rank_of q == 5 && not (is_occupied men q)) (not (is_occupied men (square_at (file_of q) 6))) a.0 in
    inl (eqb-true (rank_of q) 5 (and_parts (rank_of q == 5) (not (is_occupied men q)) b.0).0)
passed_rank men Black q e =
    let a = and_parts (rank_of q == 2 && not (is_occupied men q) && not (is_occupied men (square_at (file_of q) 1))) (is_on Pawn White men (square_at (file_of q) 3)) e in
    let b = and_parts (rank_of q == 2 && not (is_occupied men q)) (not (is_occupied men (square_at (file_of q) 1))) a.0 in
    inr (eqb-true (rank_of q) 2 (and_parts (rank_of q == 2) (not (is_occupied men q)) b.0).0)

no_promotion : (s : PlacedMan) (square : ℕ) → (rank_of square ≡ 5) ⊎ (rank_of square ≡ 2) → promotes s square ≡ false
no_promotion s square ranks = elim (cases_Bool (is_man Pawn s.0)) [
  | inl pawn ↦ elim ranks [ inl e ↦ rw (pawn, e) refl | inr e ↦ rw (pawn, e) refl ]
  | inr piece ↦ rw piece refl
]

once_if : (b : Bool) (s : PlacedMan) (square : ℕ) → promotes s square ≡ false → length (moves_if b s square) ≤ 1
once_if true s square stays = rw stays (omega arith)
once_if false s square stays = omega arith

-- a man captures en passant at most once, since no pawn promotes there
pub one_en_passant : (men : List PlacedMan) (mover : Color) (o : Option ℕ) (s : PlacedMan) → has_sound_en_passant men mover o ≡ true → length (en_passant_moves men o s) ≤ 1
one_en_passant men mover None s sound = omega arith
one_en_passant men mover (Some square) s sound = once_if (may_pass men s square) s square (no_promotion s square (passed_rank men mover square sound))

other_is : (color man : Color) → is_color (other_color color) man ≡ not (is_color color man)
other_is White White = refl
other_is White Black = refl
other_is Black White = refl
other_is Black Black = refl

pub sides : (color : Color) (men : List PlacedMan) → length (men_of color men) + length (men_of (other_color color) men) ≡ length men
sides color men = length-filter_both (λ s. is_color color s.1) (λ s. is_color (other_color color) s.1) (λ s. other_is color s.1) men

-- ---- a pawn's pushes

pub pawn_costs : (a b c : Bool) (color : Color) (from to : ℕ) → length (moves_if (a && (b && c)) (Pawn, color, from) to) ≤ (if b then (if rank_of to == 0 || rank_of to == 7 then 4 else 1) else 0)
pawn_costs false true c color from to = omega arith
pawn_costs false false c color from to = omega arith
pawn_costs true false c color from to = omega arith
pawn_costs true true false color from to = omega arith
pawn_costs true true true color from to = elim (cases_Bool (rank_of to == 0 || rank_of to == 7)) [
  | inl t ↦ rw t (omega arith)
  | inr f ↦ rw f (omega arith)
]

pub first_of_three : (a b c : Bool) → (a && (b && c)) ≡ true → b ≡ true
first_of_three a b c e = (and_parts b c (and_parts a (b && c) e).1).0
