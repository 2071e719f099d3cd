-- A position: men on squares, the side to move, and the square that a pawn has just passed over. Ranks are numbered from 0: rank
-- 6 has the number 5.
use Rattle.std.specs.Prelude.{ℕ, ◌≡◌, ◌<◌, Bool, true, not, ◌&&◌, ◌==◌, nat_le, List, [], ◌∷◌, length, Option, Some, None, option_map, if◌then◌else◌}
use Rattle.std.specs.List.{list_any, find}
use Rattle.std.specs.Option.{ForSome}
use Rattle.szg_values.specs.Men.{is_man, is_color, other_color, file_of, rank_of, square_at}
use Rattle.szg_values.specs.Placement.{PlacedMan, AreOnBoard, number_of, has_distinct_squares, has_pawns_on_inner_ranks}
use Rattle.szg_values.specs.declared.Man.{Man}
use Rattle.szg_values.specs.declared.Man.TheVariants.{Pawn, King}
use Rattle.szg_values.specs.declared.Color.{Color}
use Rattle.szg_values.specs.declared.Color.TheVariants.{White, Black}
use Rattle.szg_chess.specs.Attacks.{is_occupied, is_in_check}
use Rattle.szg_chess.specs.declared.PositionFault.{PositionFault}
use Rattle.szg_chess.specs.declared.PositionFault.TheVariants as fault

pub record Position : Type 0 where
  -- the men of both colours with their squares, in any order
  pub placed_men : List PlacedMan
  -- the side to move
  pub mover : Color
  -- the square that a pawn of the other side has just passed over by a double step, if one is given
  pub en_passant : Option ℕ

-- a man of this kind and colour is on the square
abbrev pub is_on : Man → Color → List PlacedMan → ℕ → Bool
is_on man color men square = list_any (λ s. is_man man s.0 && is_color color s.1 && s.2 == square) men

-- the man on a square and its colour, if there is one
abbrev pub man_on : List PlacedMan → ℕ → Option (Man × Color)
man_on men square = option_map (λ s. (s.0, s.1)) (find (λ s. s.2 == square) men)

-- two to six men
abbrev pub has_two_to_six : List PlacedMan → Bool
has_two_to_six men = nat_le 2 (length men) && nat_le (length men) 6

-- exactly one king of each colour
abbrev pub has_kings : List PlacedMan → Bool
has_kings men = number_of King White men == 1 && number_of King Black men == 1

-- A pawn may just have passed over the square. With White to move the square is on rank 6, Black's pawn is on rank 5
-- below it, and the square and the one on rank 7 that the pawn came from are empty. With Black to move likewise on
-- ranks 3, 4 and 2.
abbrev pub was_passed : List PlacedMan → Color → ℕ → Bool
was_passed men White square = rank_of square == 5 && not (is_occupied men square) && not (is_occupied men (square_at (file_of square) 6)) && is_on Pawn Black men (square_at (file_of square) 4)
was_passed men Black square = rank_of square == 2 && not (is_occupied men square) && not (is_occupied men (square_at (file_of square) 1)) && is_on Pawn White men (square_at (file_of square) 3)

-- the en passant square, if any, was passed over by a pawn of the side not to move
abbrev pub has_sound_en_passant : List PlacedMan → Color → Option ℕ → Bool
has_sound_en_passant men mover None = true
has_sound_en_passant men mover (Some square) = was_passed men mover square

-- the first fault of several tests, each of which found a fault or none
abbrev pub first_of : List (Option PositionFault) → Option PositionFault
first_of [] = None
first_of (None ∷ faults) = first_of faults
first_of (Some why ∷ faults) = Some why

-- why these are not the men of a position: the first fault, if any
unfoldable pub men_fault : List PlacedMan → Option PositionFault
men_fault men =
    if not (has_two_to_six men) then Some fault.Men else
    if not (has_kings men) then Some fault.Kings else
    if not (has_distinct_squares men) then Some fault.SameSquare else
    if not (has_pawns_on_inner_ranks men) then Some fault.PawnRank else None

-- why the en passant square and the side to move do not fit the men: the first fault, if any
unfoldable pub state_fault : Position → Option PositionFault
state_fault p =
    if not (has_sound_en_passant p.placed_men p.mover p.en_passant) then Some fault.EnPassant else
    if is_in_check p.placed_men (other_color p.mover) then Some fault.OpponentInCheck else None

-- why this is not a position: the first fault, if any
unfoldable pub position_fault : Position → Option PositionFault
position_fault p = first_of (men_fault p.placed_men ∷ state_fault p ∷ [])

-- all squares that the position names are on the board: their numbers are below 64
pub record AreSquares (p : Position) : Type 0 where
  pub men : AreOnBoard p.placed_men
  pub en_passant : ForSome p.en_passant (λ square. square < 64)

-- this is a position: its squares are on the board, and it has no fault
pub record IsPosition (p : Position) : Type 0 where
  pub no_fault : position_fault p ≡ None
  pub squares : AreSquares p

-- the same men and side to move, without the right to capture en passant
abbrev pub without_en_passant : Position → Position
without_en_passant p = record { placed_men = p.placed_men; mover = p.mover; en_passant = None }
