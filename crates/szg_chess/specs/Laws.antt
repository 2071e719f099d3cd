-- Laws that follow from the definitions: what each says is proved.
use Rattle.std.specs.Prelude.{ℕ, ⊤, ◌≢◌, ◌+◌, ◌-◌, ◌<◌, ◌≡◌, ◌↔◌, ◌==◌, ◌&&◌, ◌||◌, nat_lt, Bool, true, false, List, [], ◌∷◌, filter, map, length, Option, Some, None, is_none, if◌then◌else◌, Contains}
use Rattle.std.specs.List.{All, list_any}
use Rattle.szg_values.specs.Men.{is_color, other_color, rank_of}
use Rattle.szg_values.specs.Placement.{PlacedMan}
use Rattle.szg_values.specs.declared.Man.{Man}
use Rattle.szg_values.specs.declared.Man.TheVariants.{Pawn, Knight, Bishop, Rook, Queen, King}
use Rattle.szg_values.specs.declared.Color.{Color}
use Rattle.szg_values.specs.declared.Color.TheVariants.{White, Black}
use Rattle.szg_chess.specs.Attacks.{attacks}
use Rattle.szg_chess.specs.Position.{Position, IsPosition}
use Rattle.szg_chess.specs.Moves.{promotes, may_pass, may_enter, is_square, is_legal, after, is_capture, is_zeroing, legal_moves, legal_captures}
use Rattle.szg_chess.specs.Images.{Same, IsImage}
use Rattle.szg_chess.specs.Fen.{fen_fault, record_of, fen_text}
use Rattle.szg_chess.specs.declared.Move.{Move}

-- ---- moves in words

-- an enemy man is on the square
abbrev pub is_enemy_on : Position → ℕ → Bool
is_enemy_on p square = list_any (λ s. is_color (other_color p.mover) s.1 && s.2 == square) p.placed_men

-- A man may go to a square: it attacks the square and an enemy man is there; or it is a pawn that attacks the square that an
-- enemy pawn has just passed over; or it may enter the square, which is empty.
abbrev pub may_go : Position → PlacedMan → ℕ → Bool
may_go p s to = (is_enemy_on p to && attacks p.placed_men s to) || ((is_square p.en_passant to && may_pass p.placed_men s to) || (nat_lt to 64 && may_enter p.placed_men s to))

-- a knight, a bishop, a rook or a queen: what a pawn may be promoted to
abbrev pub is_promotion : Option Man → Bool
is_promotion None = false
is_promotion (Some Pawn) = false
is_promotion (Some Knight) = true
is_promotion (Some Bishop) = true
is_promotion (Some Rook) = true
is_promotion (Some Queen) = true
is_promotion (Some King) = false

-- a pawn is promoted exactly if it reaches the last rank
abbrev pub fits_rank : PlacedMan → Move → Bool
fits_rank s m = if promotes s m.to then is_promotion m.promotion else is_none m.promotion

-- A move, said without lists: a man of the side to move leaves its square for one that it may go to, and is promoted exactly if it
-- is a pawn that reaches the last rank.
pub record IsMoveOf (p : Position) (m : Move) : Type 0 where
  pub man : PlacedMan
  pub stands : Contains p.placed_men man
  pub own : is_color p.mover man.1 ≡ true
  pub leaves : m.from ≡ man.2
  pub goes : may_go p man m.to ≡ true
  pub rank : fits_rank man m ≡ true

-- the legal moves are exactly the moves in this sense that leave the mover's king unattacked
abbrev pub LawMoves : Type 0
LawMoves = (p : Position) (m : Move) → Contains (legal_moves p) m ↔ (IsMoveOf p m × (is_legal p m ≡ true))

-- no element occurs twice
abbrev pub AreDifferent : {X : Type 0} → List X → Type 0
AreDifferent [] = ⊤
AreDifferent (x ∷ xs) = All (λ y. x ≢ y) xs × AreDifferent xs

-- no legal move is listed twice
abbrev pub LawDifferent : Type 0
LawDifferent = (p : Position) → IsPosition p → AreDifferent (legal_moves p)

-- ---- after a move

-- the position after a legal move is a position
abbrev pub LawAfter : Type 0
LawAfter = (p : Position) (m : Move) → IsPosition p → Contains (legal_moves p) m → IsPosition (after p m)

-- the legal moves that capture are the legal ones of the captures
abbrev pub LawCaptures : Type 0
LawCaptures = (p : Position) → IsPosition p → filter (is_capture p) (legal_moves p) ≡ legal_captures p

-- a capture takes one man from the board, and no other move does
abbrev pub LawCaptured : Type 0
LawCaptured = (p : Position) (m : Move) → IsPosition p → Contains (legal_moves p) m → length (after p m).placed_men + (if is_capture p m then 1 else 0) ≡ length p.placed_men

-- how many ranks a pawn has to go to its last rank; no other man has any to go
abbrev pub ranks_to_go : Man → Color → ℕ → ℕ
ranks_to_go Pawn White square = 7 - rank_of square
ranks_to_go Pawn Black square = rank_of square
ranks_to_go Knight color square = 0
ranks_to_go Bishop color square = 0
ranks_to_go Rook color square = 0
ranks_to_go Queen color square = 0
ranks_to_go King color square = 0

-- the number of men plus the number of ranks that their pawns still have to go
unfoldable pub zeroing_left : List PlacedMan → ℕ
zeroing_left [] = 0
zeroing_left (s ∷ men) = 1 + ranks_to_go s.0 s.1 s.2 + zeroing_left men

-- a pawn's move or a capture lowers this number
abbrev pub LawZeroing : Type 0
LawZeroing = (p : Position) (m : Move) → IsPosition p → Contains (legal_moves p) m → is_zeroing p m ≡ true → zeroing_left (after p m).placed_men < zeroing_left p.placed_men

-- any other move keeps this number
abbrev pub LawQuiet : Type 0
LawQuiet = (p : Position) (m : Move) → IsPosition p → Contains (legal_moves p) m → is_zeroing p m ≡ false → zeroing_left (after p m).placed_men ≡ zeroing_left p.placed_men

-- the men, without their squares
abbrev pub kinds_of : List PlacedMan → List (Man × Color)
kinds_of men = map (λ s. (s.0, s.1)) men

-- a move that neither captures nor promotes keeps the men: only a square changes
abbrev pub LawKinds : Type 0
LawKinds = (p : Position) (m : Move) → IsPosition p → Contains (legal_moves p) m → is_capture p m ≡ false → m.promotion ≡ None → kinds_of (after p m).placed_men ≡ kinds_of p.placed_men

-- ---- texts

-- The text that is written of a position is accepted, and says the same men on the same squares, in the order of the text, the
-- same side to move and the same en passant square. It has no counters.
pub record IsReadBack (p : Position) (text : List ℕ) : Type 0 where
  pub accepted : fen_fault text ≡ None
  pub position : IsImage Same p (record_of text).position
  pub halfmove : (record_of text).halfmove ≡ 0
  pub fullmove : (record_of text).fullmove ≡ 1

-- each position's text is read back so
abbrev pub LawReadBack : Type 0
LawReadBack = (p : Position) → IsPosition p → IsReadBack p (fen_text p)
