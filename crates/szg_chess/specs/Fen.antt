-- The text of a position, in Forsyth-Edwards Notation (FEN). It has six fields with one space between them: the board, the
-- side to move, the castling rights (`-`: there are none), the en passant square or `-`, the plies since the last capture or
-- pawn's move, and the number of the full move. The last two may be left out together. A text is a list of ASCII codes: 45 is
-- `-`, 47 `/`, 48 `0`, 65 `A`, 97 `a`.
use Rattle.std.specs.Prelude.{ℕ, zero, suc, ◌+◌, ◌-◌, ◌*◌, Bool, true, not, ◌&&◌, ◌||◌, ◌==◌, nat_le, List, [], ◌∷◌, ◌++◌, length, slice_index, count_by, Option, Some, None, is_some, if◌then◌else◌}
use Rattle.std.specs.List.{list_all, before_first, after_first}
use Rattle.std.specs.Str.Parse.{digits_value}
use Rattle.szg_values.specs.Men.{square_at, letter_of}
use Rattle.szg_values.specs.Placement.{PlacedMan}
use Rattle.szg_values.specs.declared.Man.{Man}
use Rattle.szg_values.specs.declared.Man.TheVariants.{Pawn, Knight, Bishop, Rook, Queen, King}
use Rattle.szg_values.specs.declared.Color.{Color}
use Rattle.szg_values.specs.declared.Color.TheVariants.{White, Black}
use Rattle.szg_chess.specs.Position.{Position, man_on, first_of, men_fault, state_fault}
use Rattle.szg_chess.specs.Uci.{square_text}
use Rattle.szg_chess.specs.declared.FenRecord.{FenRecord}
use Rattle.szg_chess.specs.declared.PositionFault.{PositionFault}
use Rattle.szg_chess.specs.declared.PositionFault.TheVariants as fault

-- ---- the board

-- the man and colour of a letter: White's letters are K Q R B N P, Black's k q r b n p
abbrev pub man_of_letter : ℕ → Option (Man × Color)
man_of_letter c =
    if c == 75 then Some (King, White) else
    if c == 81 then Some (Queen, White) else
    if c == 82 then Some (Rook, White) else
    if c == 66 then Some (Bishop, White) else
    if c == 78 then Some (Knight, White) else
    if c == 80 then Some (Pawn, White) else
    if c == 107 then Some (King, Black) else
    if c == 113 then Some (Queen, Black) else
    if c == 114 then Some (Rook, Black) else
    if c == 98 then Some (Bishop, Black) else
    if c == 110 then Some (Knight, Black) else
    if c == 112 then Some (Pawn, Black) else None

-- a digit 1 to 8, which stands for as many empty squares
abbrev pub is_gap : ℕ → Bool
is_gap c = nat_le 49 c && nat_le c 56

-- the ranks are separated by slashes
abbrev pub is_slash : ℕ → Bool
is_slash c = c == 47

-- a character of the board: a man's letter, a digit, or a slash
unfoldable pub is_board_letter : ℕ → Bool
is_board_letter c = is_gap c || is_some (man_of_letter c) || is_slash c

-- the number of squares that a character stands for: a digit's number, and one for a man
unfoldable pub width_of : ℕ → ℕ
width_of c = if is_gap c then c - 48 else 1

-- the number of squares that a rank's text stands for
unfoldable pub rank_width : List ℕ → ℕ
rank_width [] = 0
rank_width (c ∷ rank) = width_of c + rank_width rank

-- each of n ranks, the last of which is rank 1, has eight squares
unfoldable pub are_ranks : ℕ → List ℕ → Bool
are_ranks zero board = true
are_ranks (suc n) board = rank_width (before_first is_slash board) == 8 && are_ranks n (after_first is_slash board)

-- eight ranks of eight squares, with seven slashes between them
abbrev pub has_ranks : List ℕ → Bool
has_ranks board = count_by is_slash board == 7 && are_ranks 8 board

-- the man on a square, if the character there is a man's letter
unfoldable pub men_at : ℕ → Option (Man × Color) → List PlacedMan
men_at square None = []
men_at square (Some man) = (man.0, man.1, square) ∷ []

-- the men of a rank from this square on: each man is on the square after those of the characters before it
unfoldable pub men_of_rank : ℕ → List ℕ → List PlacedMan
men_of_rank square [] = []
men_of_rank square (c ∷ rank) = (if is_gap c then [] else men_at square (man_of_letter c)) ++ men_of_rank (square + width_of c) rank

-- the men of n ranks, the last of which is rank 1
unfoldable pub men_of_ranks : ℕ → List ℕ → List PlacedMan
men_of_ranks zero board = []
men_of_ranks (suc n) board = men_of_rank (8 * n) (before_first is_slash board) ++ men_of_ranks n (after_first is_slash board)

-- why the first field is not a board: the first fault, if any
unfoldable pub board_fault : List ℕ → Option PositionFault
board_fault board =
    if not (list_all is_board_letter board) then Some fault.Letter else
    if not (has_ranks board) then Some fault.Rank else None

-- ---- the other fields

abbrev pub is_space : ℕ → Bool
is_space c = c == 32

-- the first field of a text, and the text after it
abbrev pub field : List ℕ → List ℕ
field text = before_first is_space text

abbrev pub rest : List ℕ → List ℕ
rest text = after_first is_space text

-- the field is this one character
abbrev pub is_letter : ℕ → List ℕ → Bool
is_letter c text = length text == 1 && slice_index text 0 == c

-- w or b
abbrev pub is_mover : List ℕ → Bool
is_mover text = is_letter 119 text || is_letter 98 text

abbrev pub mover_of : List ℕ → Color
mover_of text = if is_letter 119 text then White else Black

-- a dash: no castling rights, or no en passant square
abbrev pub is_dash : List ℕ → Bool
is_dash text = is_letter 45 text

-- a file a to h and a rank, 3 or 6
abbrev pub is_passed_square : List ℕ → Bool
is_passed_square text = length text == 2 && nat_le 97 (slice_index text 0) && nat_le (slice_index text 0) 104 && (slice_index text 1 == 51 || slice_index text 1 == 54)

abbrev pub is_en_passant_field : List ℕ → Bool
is_en_passant_field text = is_dash text || is_passed_square text

abbrev pub en_passant_of : List ℕ → Option ℕ
en_passant_of text = if is_dash text then None else Some (square_at (slice_index text 0 - 97) (slice_index text 1 - 49))

-- a number of one to nine digits
abbrev pub is_number : List ℕ → Bool
is_number text = nat_le 1 (length text) && nat_le (length text) 9 && list_all (λ c. nat_le 48 c && nat_le c 57) text

-- nothing follows the first field
abbrev pub is_last : List ℕ → Bool
is_last text = length (field text) == length text

-- nothing follows the first field, or two numbers do
abbrev pub has_counters : List ℕ → Bool
has_counters text = is_last text || (is_number (field (rest text)) && is_number (rest (rest text)))

-- ---- the text

-- the fields from the side to move on, from castling on, and from the en passant square on
abbrev pub from_mover : List ℕ → List ℕ
from_mover text = rest text

abbrev pub from_castling : List ℕ → List ℕ
from_castling text = rest (rest text)

abbrev pub from_en_passant : List ℕ → List ℕ
from_en_passant text = rest (rest (rest text))

-- the position that the first four fields say
abbrev pub position_of : List ℕ → Position
position_of text = record {
  placed_men = men_of_ranks 8 (field text);
  mover = mover_of (field (from_mover text));
  en_passant = en_passant_of (field (from_en_passant text));
}

-- the counters after the first field: without them no ply has passed since the last zeroing move, and it is move 1
abbrev pub halfmove_of : List ℕ → ℕ
halfmove_of text = if is_last text then 0 else digits_value 10 (field (rest text))

abbrev pub fullmove_of : List ℕ → ℕ
fullmove_of text = if is_last text then 1 else digits_value 10 (rest (rest text))

-- what a text says
abbrev pub record_of : List ℕ → FenRecord
record_of text = record { position = position_of text; halfmove = halfmove_of (from_en_passant text); fullmove = fullmove_of (from_en_passant text) }

-- what is wrong with the three fields after the board: the first fault, if any
unfoldable pub fields_fault : List ℕ → Option PositionFault
fields_fault text =
    if not (is_mover (field (from_mover text))) then Some fault.SideToMove else
    if not (is_dash (field (from_castling text))) then Some fault.Castling else
    if not (is_en_passant_field (field (from_en_passant text))) then Some fault.EnPassant else None

-- what follows the en passant square is neither nothing nor two numbers
unfoldable pub counters_fault : List ℕ → Option PositionFault
counters_fault text = if not (has_counters (from_en_passant text)) then Some fault.Counters else None

-- why the text is not that of a position: the first fault, if any
unfoldable pub fen_fault : List ℕ → Option PositionFault
fen_fault text = first_of (
    board_fault (field text) ∷
    men_fault (men_of_ranks 8 (field text)) ∷
    fields_fault text ∷
    state_fault (position_of text) ∷
    counters_fault text ∷ [])

-- ---- a position as text

-- the letter of a man: White's are upper case
abbrev pub letter_of_man : Man × Color → ℕ
letter_of_man (man, White) = letter_of man
letter_of_man (man, Black) = 32 + letter_of man

-- one empty square more before a text: it raises the digit that the text begins with, or is a digit of its own
unfoldable pub after_empty : List ℕ → List ℕ
after_empty [] = 49 ∷ []
after_empty (c ∷ text) = if is_gap c then (c + 1) ∷ text else 49 ∷ c ∷ text

-- the digit of a run of empty squares, if there are any
abbrev pub empty_text : ℕ → List ℕ
empty_text n = if n == 0 then [] else (48 + n) ∷ []

-- a square before a text
unfoldable pub after_square : Option (Man × Color) → List ℕ → List ℕ
after_square None text = after_empty text
after_square (Some man) text = letter_of_man man ∷ text

-- the text of n squares from this square on
unfoldable pub squares_text : List PlacedMan → ℕ → ℕ → List ℕ
squares_text men zero square = []
squares_text men (suc n) square = after_square (man_on men square) (squares_text men n (square + 1))

-- the text of n ranks, the last of which is rank 1
unfoldable pub ranks_text : List PlacedMan → ℕ → List ℕ
ranks_text men zero = []
ranks_text men (suc n) = squares_text men 8 (8 * n) ++ (if n == 0 then [] else 47 ∷ ranks_text men n)

abbrev pub mover_text : Color → List ℕ
mover_text White = 119 ∷ []
mover_text Black = 98 ∷ []

abbrev pub en_passant_text : Option ℕ → List ℕ
en_passant_text None = 45 ∷ []
en_passant_text (Some square) = square_text square

-- the first four fields of a position's text
unfoldable pub fen_text : Position → List ℕ
fen_text p = ranks_text p.placed_men 8 ++ 32 ∷ mover_text p.mover ++ 32 ∷ 45 ∷ 32 ∷ en_passant_text p.en_passant
