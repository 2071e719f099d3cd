-- Which squares a man attacks. A man s is a piece or a pawn: s.0 is its kind, s.1 its colour, s.2 its square. Squares are
-- numbered from a1 = 0, b1 = 1 to h8 = 63; files and ranks from 0: file a and rank 1 have the number 0, file h and rank 8 the
-- number 7.
use Rattle.std.specs.Prelude.{ℕ, ◌+◌, ◌-◌, Bool, not, ◌&&◌, ◌||◌, ◌==◌, nat_lt, nat_le, List, []}
use Rattle.std.specs.List.{list_any}
use Rattle.szg_values.specs.Men.{is_man, is_color, other_color, file_of, rank_of}
use Rattle.szg_values.specs.Placement.{PlacedMan}
use Rattle.szg_values.specs.declared.Man.{Man}
use Rattle.szg_values.specs.declared.Man.TheVariants.{Pawn, Knight, Bishop, Rook, Queen, King}
use Rattle.szg_values.specs.declared.Color.{Color}
use Rattle.szg_values.specs.declared.Color.TheVariants.{White, Black}

-- ---- geometry of the board

-- the difference of two numbers, whichever is the greater (a - b is 0 if b is)
abbrev pub distance : ℕ → ℕ → ℕ
distance a b = (a - b) + (b - a)

-- how many files two squares are apart
abbrev pub files_apart : ℕ → ℕ → ℕ
files_apart a b = distance (file_of a) (file_of b)

-- how many ranks two squares are apart
abbrev pub ranks_apart : ℕ → ℕ → ℕ
ranks_apart a b = distance (rank_of a) (rank_of b)

-- two different squares on one rank or on one file
abbrev pub is_straight : ℕ → ℕ → Bool
is_straight a b = not (a == b) && (files_apart a b == 0 || ranks_apart a b == 0)

-- two different squares on one diagonal
abbrev pub is_diagonal : ℕ → ℕ → Bool
is_diagonal a b = not (a == b) && files_apart a b == ranks_apart a b

-- m is strictly between the numbers a and b
abbrev pub is_amid : ℕ → ℕ → ℕ → Bool
is_amid a b m = (nat_lt a m && nat_lt m b) || (nat_lt b m && nat_lt m a)

-- The square m is strictly between the squares a and b on a file, a rank or a diagonal. On a file all three squares have the
-- same file, and m's rank is between the ranks of a and b; on a rank likewise. On a diagonal m shares a diagonal with each of
-- a and b, and its file and its rank are between theirs.
unfoldable pub is_between : ℕ → ℕ → ℕ → Bool
is_between a b m =
    (files_apart a m == 0 && files_apart m b == 0 && is_amid (rank_of a) (rank_of b) (rank_of m))
    || (ranks_apart a m == 0 && ranks_apart m b == 0 && is_amid (file_of a) (file_of b) (file_of m))
    || (is_diagonal a m && is_diagonal m b && is_amid (file_of a) (file_of b) (file_of m) && is_amid (rank_of a) (rank_of b) (rank_of m))

-- `to` is one rank ahead of `from`, as this colour's pawns advance
abbrev pub is_ahead : Color → ℕ → ℕ → Bool
is_ahead White from to = rank_of to == rank_of from + 1
is_ahead Black from to = rank_of from == rank_of to + 1

-- ---- attacks

-- some man is on the square
abbrev pub is_occupied : List PlacedMan → ℕ → Bool
is_occupied men square = list_any (λ s. s.2 == square) men

-- no man is strictly between two squares
abbrev pub is_clear : List PlacedMan → ℕ → ℕ → Bool
is_clear men from to = not (list_any (λ s. is_between from to s.2) men)

-- a king's step: to a neighbouring square
abbrev pub is_king_step : ℕ → ℕ → Bool
is_king_step from to = not (from == to) && nat_le (files_apart from to) 1 && nat_le (ranks_apart from to) 1

-- a knight's jump: one file and two ranks, or two files and one rank
abbrev pub is_knight_jump : ℕ → ℕ → Bool
is_knight_jump from to = (files_apart from to == 1 && ranks_apart from to == 2) || (files_apart from to == 2 && ranks_apart from to == 1)

-- a pawn attacks the two squares one rank ahead on the files beside it
abbrev pub is_pawn_attack : Color → ℕ → ℕ → Bool
is_pawn_attack color from to = is_ahead color from to && files_apart from to == 1

-- A man of this kind and colour on `from` attacks the square `to`, whether that is empty or has a man of either colour. For a
-- bishop, a rook or a queen the squares between must be empty.
abbrev pub attacks_from : List PlacedMan → Man → Color → ℕ → ℕ → Bool
attacks_from men Pawn color from to = is_pawn_attack color from to
attacks_from men Knight color from to = is_knight_jump from to
attacks_from men Bishop color from to = is_diagonal from to && is_clear men from to
attacks_from men Rook color from to = is_straight from to && is_clear men from to
attacks_from men Queen color from to = (is_straight from to || is_diagonal from to) && is_clear men from to
attacks_from men King color from to = is_king_step from to

-- the man attacks the square from where it stands
unfoldable pub attacks : List PlacedMan → PlacedMan → ℕ → Bool
attacks men s to = attacks_from men s.0 s.1 s.2 to

-- some man of the colour attacks the square
abbrev pub is_attacked : List PlacedMan → Color → ℕ → Bool
is_attacked men color square = list_any (λ s. is_color color s.1 && attacks men s square) men

-- some man of the colour would attack a man of the other one on an empty board
abbrev pub reaches_other : List PlacedMan → Color → Bool
reaches_other men color = list_any (λ s. is_color color s.1 && list_any (λ t. is_color (other_color color) t.1 && attacks [] s t.2) men) men

-- the colour's king is attacked by the other side
abbrev pub is_in_check : List PlacedMan → Color → Bool
is_in_check men color = list_any (λ s. is_man King s.0 && is_color color s.1 && is_attacked men (other_color color) s.2) men
