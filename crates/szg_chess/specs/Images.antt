-- Images of positions: the board flipped, the colours exchanged, the men listed in another order.
use Rattle.std.specs.Prelude.{ℕ, ◌-◌, ◌≡◌, ◌↔◌, Bool, true, false, not, ◌||◌, List, map, option_map, Contains}
use Rattle.std.specs.List.{list_any}
use Rattle.szg_values.specs.Men.{is_man, other_color, file_of, rank_of, square_at}
use Rattle.szg_values.specs.Placement.{PlacedMan}
use Rattle.szg_values.specs.declared.Man.TheVariants.{Pawn}
use Rattle.szg_values.specs.declared.Color.{Color}
use Rattle.szg_chess.specs.declared.Move.{Move}
use Rattle.szg_chess.specs.Position.{Position, IsPosition}
use Rattle.szg_chess.specs.Moves.{after, is_capture, is_check, is_en_passant, is_zeroing, legal_moves}

-- A symmetry of the rules without castling. `FlipFiles` takes file a to file h, and `FlipRanks` rank 1 to rank 8;
-- `FlipDiagonal` exchanges files and ranks, so that b1 goes to a2; `ExchangeColors` exchanges the colours and the side to move,
-- and flips the ranks, so that pawns still advance.
pub data Symmetry : Type 0 where
  Same : Symmetry
  FlipFiles : Symmetry
  FlipRanks : Symmetry
  FlipDiagonal : Symmetry
  ExchangeColors : Symmetry

-- where the symmetry takes a square
abbrev pub square_image : Symmetry → ℕ → ℕ
square_image Same square = square
square_image FlipFiles square = square_at (7 - file_of square) (rank_of square)
square_image FlipRanks square = square_at (file_of square) (7 - rank_of square)
square_image FlipDiagonal square = square_at (rank_of square) (file_of square)
square_image ExchangeColors square = square_at (file_of square) (7 - rank_of square)

-- only `ExchangeColors` changes a colour
abbrev pub color_image : Symmetry → Color → Color
color_image Same color = color
color_image FlipFiles color = color
color_image FlipRanks color = color
color_image FlipDiagonal color = color
color_image ExchangeColors color = other_color color

-- the image of a man: its kind stays
abbrev pub man_image : Symmetry → PlacedMan → PlacedMan
man_image f s = (s.0, color_image f s.1, square_image f s.2)

-- the image of a position, its men in the same order
abbrev pub image : Symmetry → Position → Position
image f p = record {
  placed_men = map (man_image f) p.placed_men;
  mover = color_image f p.mover;
  en_passant = option_map (square_image f) p.en_passant;
}

-- the image of a move: a pawn is promoted to the same piece
abbrev pub move_image : Symmetry → Move → Move
move_image f m = record { from = square_image f m.from; to = square_image f m.to; promotion = m.promotion }

-- pawns keep their direction: each still advances to its own last rank
abbrev pub keeps_pawns : Symmetry → Bool
keeps_pawns Same = true
keeps_pawns FlipFiles = true
keeps_pawns FlipRanks = false
keeps_pawns FlipDiagonal = false
keeps_pawns ExchangeColors = true

-- the rules have this symmetry for the men: pawns keep their direction, or there are none
abbrev pub fits : Symmetry → List PlacedMan → Bool
fits f men = keeps_pawns f || not (list_any (λ s. is_man Pawn s.0) men)

-- The position q is the image of p, with its men in any order.
pub record IsImage (f : Symmetry) (p q : Position) : Type 0 where
  pub position : IsPosition q
  pub fitting : fits f p.placed_men ≡ true
  pub men : (s : PlacedMan) → Contains q.placed_men s ↔ Contains (map (man_image f) p.placed_men) s
  pub mover : q.mover ≡ color_image f p.mover
  pub en_passant : q.en_passant ≡ option_map (square_image f) p.en_passant

-- ---- laws

-- the image of a position is a position
abbrev pub LawImage : Type 0
LawImage = (f : Symmetry) (p : Position) → IsPosition p → fits f p.placed_men ≡ true → IsImage f p (image f p)

-- each symmetry is its own inverse
abbrev pub LawImageBack : Type 0
LawImageBack = (f : Symmetry) (p q : Position) → IsPosition p → IsImage f p q → IsImage f q p

-- the image of a move is a move of the image, of the same kind, to the image of the position after it
pub record IsMoveImage (f : Symmetry) (p q : Position) (m : Move) : Type 0 where
  pub legal : Contains (legal_moves q) (move_image f m)
  pub capture : is_capture q (move_image f m) ≡ is_capture p m
  pub passing : is_en_passant q (move_image f m) ≡ is_en_passant p m
  pub zeroing : is_zeroing q (move_image f m) ≡ is_zeroing p m
  pub leads : IsImage f (after p m) (after q (move_image f m))

-- an image has the images of the moves, and is in check if the position is
abbrev pub LawImageMoves : Type 0
LawImageMoves = (f : Symmetry) (p q : Position) → IsPosition p → IsImage f p q →
    (is_check q ≡ is_check p) × ((m : Move) → Contains (legal_moves p) m → IsMoveImage f p q m)
