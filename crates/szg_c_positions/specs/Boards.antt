-- Boards as engines have them: sets of squares for the men of each colour and of each kind.
use Rattle.std.specs.Prelude.{ℕ, ◌==◌, ◌||◌, not, nat_lt, Bool, List, [], ◌∷◌, length, flat_map, Result, Ok, Err, bit_and, bit_or, if◌then◌else◌}
use Rattle.szg_chess.specs.Moves.{all_squares}
use Rattle.szg_chess.specs.Squares.{is_in}
use Rattle.szg_c_positions.specs.declared.boards.RawBoard.{RawBoard}
use Rattle.szg_c_positions.specs.declared.men.RawMan.{RawMan}
use Rattle.szg_c_positions.specs.declared.status.TheConstants.{MAN, MEN, SAME_SQUARE}

-- the squares that men of a colour are on
abbrev pub colors_of : RawBoard → ℕ
colors_of b = bit_or b.white b.black

-- the squares that men of a kind are on
abbrev pub kinds_of : RawBoard → ℕ
kinds_of b = bit_or b.pawns (bit_or b.knights (bit_or b.bishops (bit_or b.rooks (bit_or b.queens b.kings))))

-- two sets share a square
abbrev pub overlap : ℕ → ℕ → Bool
overlap squares others = not (bit_and squares others == 0)

-- a square has two colours or two kinds
abbrev pub is_twice : RawBoard → Bool
is_twice b =
    overlap b.white b.black
    || overlap b.pawns (bit_or b.knights (bit_or b.bishops (bit_or b.rooks (bit_or b.queens b.kings))))
    || overlap b.knights (bit_or b.bishops (bit_or b.rooks (bit_or b.queens b.kings)))
    || overlap b.bishops (bit_or b.rooks (bit_or b.queens b.kings))
    || overlap b.rooks (bit_or b.queens b.kings)
    || overlap b.queens b.kings

-- the code of the kind of the man on a square
abbrev pub kind_on : RawBoard → ℕ → ℕ
kind_on b square =
    if is_in b.pawns square then 1 else
    if is_in b.knights square then 2 else
    if is_in b.bishops square then 3 else
    if is_in b.rooks square then 4 else
    if is_in b.queens square then 5 else 6

abbrev pub man_on : RawBoard → ℕ → RawMan
man_on b square = record { kind = kind_on b square; color = if is_in b.black square then 1 else 0; square = square }

-- the men on a set of squares, in the order of the squares
abbrev pub men_on : RawBoard → ℕ → List RawMan
men_on b squares = flat_map (λ square. if is_in squares square then man_on b square ∷ [] else []) all_squares

-- the men of a board, or the status that says why there are none
unfoldable pub men_of : RawBoard → Result (List RawMan) ℕ
men_of b =
    if not (colors_of b == kinds_of b) then Err MAN else
    if is_twice b then Err SAME_SQUARE else
    if nat_lt 6 (length (men_on b (colors_of b))) then Err MEN else Ok (men_on b (colors_of b))
