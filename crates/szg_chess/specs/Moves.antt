-- The moves of a position: first what men may do if checks did not matter, then the position after a move, then the legal moves.
-- Ranks are numbered from 0.
use Rattle.std.specs.Prelude.{ℕ, ◌+◌, ◌/◌, Bool, false, not, ◌&&◌, ◌||◌, ◌==◌, is_some, List, [], ◌∷◌, ◌++◌, map, flat_map, filter, length, Option, Some, None, if◌then◌else◌, unwrap_or}
use Rattle.std.specs.List.{list_any, range_with_len}
use Rattle.szg_values.specs.Men.{is_man, is_color, other_color, file_of, rank_of, square_at}
use Rattle.szg_values.specs.Placement.{PlacedMan}
use Rattle.szg_values.specs.declared.Man.TheVariants.{Pawn, Knight, Bishop, Rook, Queen}
use Rattle.szg_values.specs.declared.Color.{Color}
use Rattle.szg_values.specs.declared.Color.TheVariants.{White, Black}
use Rattle.szg_chess.specs.Attacks.{attacks, is_occupied, is_in_check, is_ahead, files_apart, ranks_apart, reaches_other}
use Rattle.szg_chess.specs.Position.{Position, is_on}
use Rattle.szg_chess.specs.declared.Move.{Move}

-- ---- what a man may do, if checks did not matter

-- the men of a colour
abbrev pub men_of : Color → List PlacedMan → List PlacedMan
men_of color men = filter (λ s. is_color color s.1) men

-- The man is a pawn, and the square is on rank 8 or 1. A pawn only advances, so this is its last rank, where it promotes.
abbrev pub promotes : PlacedMan → ℕ → Bool
promotes s to = is_man Pawn s.0 && (rank_of to == 0 || rank_of to == 7)

-- the moves of a man to a square: one; or, for a pawn that promotes, four: to a queen, a rook, a bishop and a knight
abbrev pub moves_to : PlacedMan → ℕ → List Move
moves_to s to =
    if promotes s to
    then map (λ piece. record { from = s.2; to = to; promotion = Some piece }) (Queen ∷ Rook ∷ Bishop ∷ Knight ∷ [])
    else record { from = s.2; to = to; promotion = None } ∷ []

-- the moves of a man to a square if it may go there
abbrev pub moves_if : Bool → PlacedMan → ℕ → List Move
moves_if may_go s to = if may_go then moves_to s to else []

-- a pawn may capture en passant: it attacks the square that an enemy pawn has just passed over
abbrev pub may_pass : List PlacedMan → PlacedMan → ℕ → Bool
may_pass men s square = is_man Pawn s.0 && attacks men s square

-- the captures en passant of a man: none if no pawn has just passed over a square
abbrev pub en_passant_moves : List PlacedMan → Option ℕ → PlacedMan → List Move
en_passant_moves men None s = []
en_passant_moves men (Some square) s = moves_if (may_pass men s square) s square

-- the captures of a man: of each enemy man on a square that it attacks, and en passant
abbrev pub captures_by : Position → PlacedMan → List Move
captures_by p s = flat_map (λ t. moves_if (attacks p.placed_men s t.2) s t.2) (men_of (other_color p.mover) p.placed_men)
    ++ en_passant_moves p.placed_men p.en_passant s

-- the captures of the side to move, in the order of the men
unfoldable pub captures_of : Position → List Move
captures_of p = flat_map (captures_by p) (men_of p.mover p.placed_men)

-- Some man of the side to move would attack an enemy man on an empty board, or there is an en passant square. If not, there is
-- no capture.
abbrev pub may_capture : Position → Bool
may_capture p = is_some p.en_passant || reaches_other p.placed_men p.mover

-- White's pawns begin on rank 2, which has the number 1, and Black's on rank 7
abbrev pub home_rank : Color → ℕ
home_rank White = 1
home_rank Black = 6

-- a double step of White's pawn ends on rank 4, which has the number 3, and one of Black's on rank 5
abbrev pub double_rank : Color → ℕ
double_rank White = 3
double_rank Black = 4

-- the square half-way between two squares, which a double step passes over
abbrev pub middle : ℕ → ℕ → ℕ
middle from to = (from + to) / 2

-- A pawn's push: one square straight ahead, or two from its home rank over an empty square (a double step). That the square where
-- it ends is empty too is said below.
abbrev pub is_push : List PlacedMan → Color → ℕ → ℕ → Bool
is_push men color from to = files_apart from to == 0
    && (is_ahead color from to || (rank_of from == home_rank color && rank_of to == double_rank color && not (is_occupied men (middle from to))))

-- a man may go to a square that is empty: a pawn by a push, a piece if it attacks the square
unfoldable pub may_enter : List PlacedMan → PlacedMan → ℕ → Bool
may_enter men s to = not (is_occupied men to) && (if is_man Pawn s.0 then is_push men s.1 s.2 to else attacks men s to)

-- the squares from a1 to h8
unfoldable pub all_squares : List ℕ
all_squares = range_with_len 0 64

-- the moves of a man to empty squares, from a1 to h8
abbrev pub quiet_moves_by : List PlacedMan → PlacedMan → List Move
quiet_moves_by men s = flat_map (λ to. moves_if (may_enter men s to) s to) all_squares

-- the moves of the side to move to empty squares, in the order of the men
unfoldable pub quiet_moves_of : Position → List Move
quiet_moves_of p = flat_map (quiet_moves_by p.placed_men) (men_of p.mover p.placed_men)

-- those of its pawns
unfoldable pub pawn_moves_of : Position → List Move
pawn_moves_of p = flat_map (quiet_moves_by p.placed_men) (filter (λ s. is_color p.mover s.1 && is_man Pawn s.0) p.placed_men)

-- the moves of the side to move, if checks did not matter: captures, then moves to empty squares
abbrev pub moves_of : Position → List Move
moves_of p = captures_of p ++ quiet_moves_of p

-- ---- the position after a move

-- a pawn of the side to move is on the square
abbrev pub is_pawn_on : Position → ℕ → Bool
is_pawn_on p square = is_on Pawn p.mover p.placed_men square

-- there is an en passant square, and it is this one
abbrev pub is_square : Option ℕ → ℕ → Bool
is_square None square = false
is_square (Some other) square = other == square

-- a capture en passant: a pawn goes to the square that an enemy pawn has just passed over, from a neighbouring file
unfoldable pub is_en_passant : Position → Move → Bool
is_en_passant p m = is_square p.en_passant m.to && files_apart m.from m.to == 1 && is_pawn_on p m.from

-- The square of the man that is captured, if there is one: where the move goes, or en passant the square beside the capturing
-- pawn.
abbrev pub captured_square : Position → Move → ℕ
captured_square p m = if is_en_passant p m then square_at (file_of m.to) (rank_of m.from) else m.to

-- A man after a move: the one that moves is on its new square, promoted if the move says so; every other man stays.
abbrev pub man_after : Move → PlacedMan → PlacedMan
man_after m s = if s.2 == m.from then (unwrap_or m.promotion s.0, s.1, m.to) else s

-- the men after a move: the captured one is gone
unfoldable pub men_after : Position → Move → List PlacedMan
men_after p m = map (man_after m) (filter (λ s. not (s.2 == captured_square p m)) p.placed_men)

-- a double step: a pawn of the side to move goes two ranks ahead
abbrev pub is_double_step : Position → Move → Bool
is_double_step p m = ranks_apart m.from m.to == 2 && is_pawn_on p m.from

-- The position after a move: the men after it, the other side to move, and after a double step the square that was passed over.
unfoldable pub after : Position → Move → Position
after p m = record {
  placed_men = men_after p m;
  mover = other_color p.mover;
  en_passant = if is_double_step p m then Some (middle m.from m.to) else None;
}

-- ---- legal moves

-- the mover's king is not attacked after the move
unfoldable pub is_legal : Position → Move → Bool
is_legal p m = not (is_in_check (men_after p m) p.mover)

-- the legal moves: those that leave the mover's king unattacked
abbrev pub legal_moves : Position → List Move
legal_moves p = filter (is_legal p) (moves_of p)

-- an enemy man is on the square that the man goes to, or a pawn captures en passant
abbrev pub is_capture : Position → Move → Bool
is_capture p m = list_any (λ s. is_color (other_color p.mover) s.1 && s.2 == m.to) p.placed_men || is_en_passant p m

-- a pawn's move or a capture
abbrev pub is_zeroing : Position → Move → Bool
is_zeroing p m = is_pawn_on p m.from || is_capture p m

-- the legal captures: those that leave the mover's king unattacked
abbrev pub legal_captures : Position → List Move
legal_captures p = filter (is_legal p) (captures_of p)

-- the side to move is in check
abbrev pub is_check : Position → Bool
is_check p = is_in_check p.placed_men p.mover

-- the side to move has no legal move
abbrev pub has_no_move : Position → Bool
has_no_move p = length (legal_moves p) == 0

-- some legal move is no capture
abbrev pub has_quiet_move : Position → Bool
has_quiet_move p = list_any (λ m. not (is_capture p m)) (legal_moves p)

-- mate: the side to move is in check, and has no legal move
abbrev pub is_mate : Position → Bool
is_mate p = is_check p && has_no_move p

-- stalemate: the side to move is not in check, and has no legal move
abbrev pub is_stalemate : Position → Bool
is_stalemate p = not (is_check p) && has_no_move p

-- some legal move is no capture en passant
abbrev pub has_move_beside_en_passant : Position → Bool
has_move_beside_en_passant p = list_any (λ m. not (is_en_passant p m)) (legal_moves p)
