-- Worked examples: positions by their text, and what the definitions say of them. Squares are numbered a1 = 0, b1 = 1, .. h8 = 63.
use Rattle.std.specs.Prelude.{ℕ, ◌≡◌, true, false, List, [], ◌∷◌, map, filter, length, Some, None, codes}
use Rattle.szg_values.specs.Placement.{PlacedMan}
use Rattle.szg_values.specs.declared.Man.{Man}
use Rattle.szg_values.specs.declared.Man.TheVariants.{Pawn, Knight, Bishop, Rook, Queen, King}
use Rattle.szg_values.specs.declared.Color.TheVariants.{White, Black}
use Rattle.szg_chess.specs.Attacks.{attacks, is_between}
use Rattle.szg_chess.specs.Position.{position_fault}
use Rattle.szg_chess.specs.Moves.{all_squares, legal_moves, legal_captures, after, is_zeroing, is_mate, is_stalemate, has_move_beside_en_passant}
use Rattle.szg_chess.specs.Laws.{zeroing_left}
use Rattle.szg_chess.specs.Fen.{fen_fault, position_of, record_of, fen_text}
use Rattle.szg_chess.specs.Uci.{uci_text}
use Rattle.szg_chess.specs.San.{san_text}
use Rattle.szg_chess.specs.declared.Move.{Move}
use Rattle.szg_chess.specs.declared.PositionFault.TheVariants as fault

-- the squares that a man attacks among these men
abbrev pub attacked_by : List PlacedMan → PlacedMan → List ℕ
attacked_by men s = filter (attacks men s) all_squares

-- the texts of moves
abbrev pub texts : List Move → List (List ℕ)
texts moves = map uci_text moves

abbrev pub move : ℕ → ℕ → Move
move from to = record { from = from; to = to; promotion = None }

abbrev pub promotion : ℕ → ℕ → Man → Move
promotion from to piece = record { from = from; to = to; promotion = Some piece }

pub record Examples : Type 0 where
  -- a knight on a1 attacks c2 and b3
  pub knight : attacked_by [] (Knight, White, 0) ≡ 10 ∷ 17 ∷ []
  -- a white pawn on h2 attacks g3 alone, and a black one on a7 attacks b6
  pub white_pawn : attacked_by [] (Pawn, White, 15) ≡ 22 ∷ []
  pub black_pawn : attacked_by [] (Pawn, Black, 48) ≡ 41 ∷ []
  -- a rook on a1 with a man on a3 attacks a2, a3 and the first rank
  pub rook : attacked_by ((King, Black, 16) ∷ []) (Rook, White, 0) ≡ 1 ∷ 2 ∷ 3 ∷ 4 ∷ 5 ∷ 6 ∷ 7 ∷ 8 ∷ 16 ∷ []
  -- a bishop on c1 with a man on d2 attacks b2, a3 and d2
  pub bishop : attacked_by ((Pawn, White, 11) ∷ []) (Bishop, White, 2) ≡ 9 ∷ 11 ∷ 16 ∷ []
  -- d4 is between a1 and h8, and d5 is not
  pub between : is_between 0 63 27 ≡ true
  pub beside : is_between 0 63 35 ≡ false
  -- a black king on h8 is stalemated by a white queen on f7, and mated by one on g7 that the white king guards
  pub stalemate : is_stalemate (position_of (codes "7k/5Q2/6K1/8/8/8/8/8 b - -")) ≡ true
  pub mate : is_mate (position_of (codes "7k/6Q1/6K1/8/8/8/8/8 b - -")) ≡ true
  -- a bishop pinned by a rook captures nothing
  pub pinned : texts (legal_captures (position_of (codes "4k3/4r3/8/8/4B3/8/8/4K3 w - -"))) ≡ []
  -- a pawn captures en passant
  pub en_passant : texts (legal_captures (position_of (codes "8/8/8/3pP3/8/8/8/k6K w - d6"))) ≡ codes "e5d6" ∷ []
  -- but not where its king is attacked then along the rank from which both pawns vanish
  pub discovered : texts (legal_captures (position_of (codes "8/8/8/8/k2Pp2Q/8/8/3K4 b - d3"))) ≡ []
  -- the pawn that was passed vanishes
  pub vanishes : (after (position_of (codes "8/8/8/3pP3/8/8/8/k6K w - d6")) (move 36 43)).placed_men ≡ (Pawn, White, 43) ∷ (King, Black, 0) ∷ (King, White, 7) ∷ []
  -- a double step leaves the square that it passed over
  pub double_step : (after (position_of (codes "4k3/8/8/8/8/8/4P3/4K3 w - -")) (move 12 28)).en_passant ≡ Some 20
  -- a pawn that captures on the last rank promotes to a queen, a rook, a bishop or a knight
  pub promotions : texts (legal_captures (position_of (codes "2r3k1/1P6/8/8/8/8/8/6K1 w - -"))) ≡ codes "b7c8q" ∷ codes "b7c8r" ∷ codes "b7c8b" ∷ codes "b7c8n" ∷ []
  -- all moves of a king and a pawn before it
  pub moves : texts (legal_moves (position_of (codes "4k3/8/8/8/8/8/4P3/4K3 w - -"))) ≡ codes "e2e3" ∷ codes "e2e4" ∷ codes "e1d1" ∷ codes "e1f1" ∷ codes "e1d2" ∷ codes "e1f2" ∷ []
  -- refused: kings beside each other, a pawn on rank 1, an en passant square that no pawn passed over, castling, a rank of seven
  pub adjacent : position_fault (position_of (codes "8/8/8/8/8/8/8/kK6 w - -")) ≡ Some fault.OpponentInCheck
  pub low_pawn : position_fault (position_of (codes "k7/8/8/8/8/8/8/P6K w - -")) ≡ Some fault.PawnRank
  pub unpassed : position_fault (position_of (codes "k7/8/8/8/8/8/8/7K w - d6")) ≡ Some fault.EnPassant
  pub castling : fen_fault (codes "r3k3/8/8/8/8/8/8/4K3 b q -") ≡ Some fault.Castling
  pub short_rank : fen_fault (codes "8/8/8/8/8/8/k6/7K w - -") ≡ Some fault.Rank
  -- three men, and six ranks that the pawn on e2 has to go
  pub to_go : zeroing_left (position_of (codes "4k3/8/8/8/8/8/4P3/4K3 w - -")).placed_men ≡ 9
  -- a knight in the middle attacks 8 squares, a bishop 13, a rook 14, a queen 27, a king 8; a king in the corner 3
  pub knight_d4 : length (attacked_by [] (Knight, White, 27)) ≡ 8
  pub bishop_d4 : length (attacked_by [] (Bishop, White, 27)) ≡ 13
  pub rook_d4 : length (attacked_by [] (Rook, White, 27)) ≡ 14
  pub queen_d4 : length (attacked_by [] (Queen, White, 27)) ≡ 27
  pub king_d4 : length (attacked_by [] (King, White, 27)) ≡ 8
  pub king_a1 : attacked_by [] (King, White, 0) ≡ 1 ∷ 8 ∷ 9 ∷ []
  -- mates: by two rooks, on the back rank behind three pawns, and by a knight
  pub two_rooks : is_mate (position_of (codes "R5k1/1R6/8/8/8/8/8/K7 b - -")) ≡ true
  pub back_rank : is_mate (position_of (codes "R5k1/5ppp/8/8/8/8/8/6K1 b - -")) ≡ true
  pub smothered : is_mate (position_of (codes "6rk/5Npp/8/8/8/8/8/K7 b - -")) ≡ true
  -- no mate, since the queen can be captured by the king or by the rook
  pub captured_queen : texts (legal_moves (position_of (codes "k7/1Q6/8/8/8/8/7K/1r6 b - -"))) ≡ codes "a8b7" ∷ codes "b1b7" ∷ []
  -- a king before an enemy pawn is stalemated if the enemy king is right behind the pawn, and not if it is a file beside
  pub pawn_stalemate : is_stalemate (position_of (codes "8/8/8/8/8/5k2/5p2/5K2 w - -")) ≡ true
  pub no_stalemate : is_stalemate (position_of (codes "8/8/8/8/8/4k3/5p2/5K2 w - -")) ≡ false
  -- in double check only the king moves
  pub double_check : texts (legal_moves (position_of (codes "4r2k/8/8/8/8/3n4/8/R3K3 w - -"))) ≡ codes "e1d1" ∷ codes "e1f1" ∷ codes "e1d2" ∷ []
  -- each of two pawns may capture a third en passant
  pub two_pawns : texts (legal_captures (position_of (codes "4k3/8/8/2PpP3/8/8/8/4K3 w - d6"))) ≡ codes "c5d6" ∷ codes "e5d6" ∷ []
  -- a pawn that is pinned on its file may not capture en passant
  pub pinned_pawn : texts (legal_captures (position_of (codes "4r1k1/8/8/3pP3/8/8/8/4K3 w - d6"))) ≡ []
  -- en passant may take the pawn that gives check
  pub checking_pawn : texts (legal_captures (position_of (codes "7k/8/8/3pP3/2K5/8/8/8 w - d6"))) ≡ codes "e5d6" ∷ codes "c4d5" ∷ []
  -- a pawn promotes on an empty square too
  pub white_promotes : texts (legal_moves (position_of (codes "8/P6k/8/8/8/8/8/K7 w - -"))) ≡ codes "a7a8q" ∷ codes "a7a8r" ∷ codes "a7a8b" ∷ codes "a7a8n" ∷ codes "a1b1" ∷ codes "a1a2" ∷ codes "a1b2" ∷ []
  pub black_promotes : texts (legal_moves (position_of (codes "k7/8/8/8/8/8/7p/4K3 b - -"))) ≡ codes "a8a7" ∷ codes "a8b7" ∷ codes "a8b8" ∷ codes "h2h1q" ∷ codes "h2h1r" ∷ codes "h2h1b" ∷ codes "h2h1n" ∷ []
  -- a man two squares ahead stops the double step, and one before the pawn both
  pub half_blocked : texts (legal_moves (position_of (codes "4k3/8/8/8/4n3/8/4P3/4K3 w - -"))) ≡ codes "e2e3" ∷ codes "e1d1" ∷ codes "e1f1" ∷ []
  pub blocked : texts (legal_moves (position_of (codes "7k/8/8/8/8/4n3/4P3/6K1 w - -"))) ≡ codes "g1h1" ∷ codes "g1f2" ∷ codes "g1h2" ∷ []
  -- a pawn's move and a capture are zeroing, a move of a piece to an empty square is not
  pub pawn_zeroes : is_zeroing (position_of (codes "4k3/8/8/8/8/8/4P3/4K3 w - -")) (move 12 20) ≡ true
  pub capture_zeroes : is_zeroing (position_of (codes "4k3/8/8/8/8/8/4p3/4K3 w - -")) (move 4 12) ≡ true
  pub king_keeps : is_zeroing (position_of (codes "4k3/8/8/8/8/8/4P3/4K3 w - -")) (move 4 3) ≡ false
  -- after a move: the new queen; no en passant square; the other side to move
  pub new_queen : (after (position_of (codes "8/P6k/8/8/8/8/8/K7 w - -")) (promotion 48 56 Queen)).placed_men ≡ (Queen, White, 56) ∷ (King, Black, 55) ∷ (King, White, 0) ∷ []
  pub right_lapses : (after (position_of (codes "8/8/8/3pP3/8/8/8/k6K w - d6")) (move 7 6)).en_passant ≡ None
  pub single_step : (after (position_of (codes "4k3/8/8/8/8/8/4P3/4K3 w - -")) (move 12 20)).en_passant ≡ None
  pub black_to_move : (after (position_of (codes "4k3/8/8/8/8/8/4P3/4K3 w - -")) (move 12 20)).mover ≡ Black
  -- kings in opposition: none goes beside the other
  pub opposition : texts (legal_moves (position_of (codes "8/8/4k3/8/4K3/8/8/8 w - -"))) ≡ codes "e4d3" ∷ codes "e4e3" ∷ codes "e4f3" ∷ codes "e4d4" ∷ codes "e4f4" ∷ []
  pub opposition_in_corner : texts (legal_moves (position_of (codes "8/8/8/8/8/k7/8/K7 w - -"))) ≡ codes "a1b1" ∷ []
  -- a knight pinned on a file does not move
  pub pinned_knight : texts (legal_moves (position_of (codes "4k3/4r3/8/8/8/4N3/8/4K3 w - -"))) ≡ codes "e1d1" ∷ codes "e1f1" ∷ codes "e1d2" ∷ codes "e1e2" ∷ codes "e1f2" ∷ []
  -- nor does a bishop pinned by a rook, here Black's
  pub black_pinned_bishop : texts (legal_moves (position_of (codes "4k3/4b3/8/8/8/8/4R3/4K3 b - -"))) ≡ codes "e8d7" ∷ codes "e8f7" ∷ codes "e8d8" ∷ codes "e8f8" ∷ []
  -- a pinned rook moves along the file of the pin, and captures the rook that pins it
  pub black_pinned_rook : texts (legal_moves (position_of (codes "4k3/4r3/8/8/8/4R3/8/4K3 b - -"))) ≡ codes "e7e3" ∷ codes "e8d7" ∷ codes "e8f7" ∷ codes "e8d8" ∷ codes "e8f8" ∷ codes "e7e4" ∷ codes "e7e5" ∷ codes "e7e6" ∷ []
  -- a pinned queen stays on its diagonal
  pub pinned_queen : texts (legal_moves (position_of (codes "8/7k/8/b7/8/2Q5/8/4K3 w - -"))) ≡ codes "c3a5" ∷ codes "c3d2" ∷ codes "c3b4" ∷ codes "e1d1" ∷ codes "e1f1" ∷ codes "e1d2" ∷ codes "e1e2" ∷ codes "e1f2" ∷ []
  -- in check a man may be put between, unless it is pinned itself
  pub put_between : texts (legal_moves (position_of (codes "k3r3/8/8/8/8/8/3R4/4K3 w - -"))) ≡ codes "d2e2" ∷ codes "e1d1" ∷ codes "e1f1" ∷ codes "e1f2" ∷ []
  pub pinned_between : texts (legal_moves (position_of (codes "k3r3/8/8/8/1b6/8/3R4/4K3 w - -"))) ≡ codes "e1d1" ∷ codes "e1f1" ∷ codes "e1f2" ∷ []
  -- the man that gives check may be captured, by the king only if no other man guards it
  pub checker_captured : texts (legal_moves (position_of (codes "4k3/8/8/8/8/8/3q4/4K3 w - -"))) ≡ codes "e1d2" ∷ codes "e1f1" ∷ []
  pub guarded_checker : texts (legal_moves (position_of (codes "4k3/8/8/8/5b2/8/3q4/4K3 w - -"))) ≡ codes "e1f1" ∷ []
  pub checker_captured_by_rook : texts (legal_captures (position_of (codes "4k3/8/5N2/8/8/8/5r2/6K1 b - -"))) ≡ codes "f2f6" ∷ []
  -- a king in check does not go on along the line of the check
  pub along_the_line : texts (legal_moves (position_of (codes "k3r3/8/8/8/4K3/8/8/8 w - -"))) ≡ codes "e4d3" ∷ codes "e4f3" ∷ codes "e4d4" ∷ codes "e4f4" ∷ codes "e4d5" ∷ codes "e4f5" ∷ []
  -- in double check only the king moves: Black's
  pub black_double_check : texts (legal_moves (position_of (codes "r3k3/8/3N4/8/8/8/8/4R2K b - -"))) ≡ codes "e8d7" ∷ codes "e8d8" ∷ codes "e8f8" ∷ []
  -- pawns before each other are blocked
  pub blocked_pawns : texts (legal_moves (position_of (codes "4k3/8/8/3p4/3P4/8/8/4K3 w - -"))) ≡ codes "e1d1" ∷ codes "e1f1" ∷ codes "e1d2" ∷ codes "e1e2" ∷ codes "e1f2" ∷ []
  -- a double step may pass over an attacked square
  pub over_attacked : texts (legal_moves (position_of (codes "4k3/8/8/8/8/7r/P7/4K3 w - -"))) ≡ codes "a2a3" ∷ codes "a2a4" ∷ codes "e1d1" ∷ codes "e1f1" ∷ codes "e1d2" ∷ codes "e1e2" ∷ codes "e1f2" ∷ []
  -- a pawn captures on both sides, and neither straight ahead nor behind it
  pub pawn_captures : texts (legal_captures (position_of (codes "4k3/8/8/3p1p2/4P3/8/8/4K3 w - -"))) ≡ codes "e4d5" ∷ codes "e4f5" ∷ []
  pub pawn_captures_nothing : texts (legal_captures (position_of (codes "4k3/8/8/4p3/4P3/3p4/8/4K3 w - -"))) ≡ []
  pub black_pawn_captures : texts (legal_captures (position_of (codes "4k3/8/8/4p3/3P1P2/8/8/4K3 b - -"))) ≡ codes "e5d4" ∷ codes "e5f4" ∷ []
  -- a pawn on file h does not capture on file a
  pub edge_pawn : texts (legal_captures (position_of (codes "4k3/p7/8/7P/8/8/8/4K3 w - -"))) ≡ []
  -- a pawn promotes by a step or by a capture
  pub both_promotions : length (legal_moves (position_of (codes "1r5k/P7/8/8/8/8/8/K7 w - -"))) ≡ 9
  pub black_captures_and_promotes : texts (legal_captures (position_of (codes "k7/8/8/8/8/8/p7/1R5K b - -"))) ≡ codes "a2b1q" ∷ codes "a2b1r" ∷ codes "a2b1b" ∷ codes "a2b1n" ∷ []
  -- a king and a rook do not castle
  pub no_castling : length (legal_moves (position_of (codes "4k3/8/8/8/8/8/8/4K2R w - -"))) ≡ 14
  -- Black's pawns capture en passant from both sides
  pub black_two_pawns : texts (legal_captures (position_of (codes "4k3/8/8/8/3pPp2/8/8/4K3 b - e3"))) ≡ codes "d4e3" ∷ codes "f4e3" ∷ []
  -- en passant opens the diagonal of a bishop to the king: not legal
  pub diagonal_opened : texts (legal_captures (position_of (codes "6b1/8/8/3pP3/8/8/K7/7k w - d6"))) ≡ []
  -- with a knight between the king and the pawns the rook gives no check when both pawns leave the rank
  pub rank_kept_closed : texts (legal_captures (position_of (codes "7k/8/8/KN1pP2r/8/8/8/8 w - d6"))) ≡ codes "e5d6" ∷ []
  -- a check that en passant doesn't end: not legal
  pub other_check : texts (legal_captures (position_of (codes "4r1k1/8/8/1Pp5/8/8/8/4K3 w - c6"))) ≡ []
  -- mates by two bishops, by a bishop and a knight, and by a queen from afar
  pub two_bishops : is_mate (position_of (codes "k7/8/1K6/3BB3/8/8/8/8 b - -")) ≡ true
  pub bishop_and_knight : is_mate (position_of (codes "k7/8/NK6/3B4/8/8/8/8 b - -")) ≡ true
  pub white_mated : is_mate (position_of (codes "8/8/8/8/8/1k6/8/K2q4 w - -")) ≡ true
  -- stalemates: by a pawn on the seventh rank, with blocked pawns; none if a pawn still moves
  pub last_pawn : is_stalemate (position_of (codes "7k/7P/6K1/8/8/8/8/8 b - -")) ≡ true
  pub blocked_stalemate : is_stalemate (position_of (codes "7k/7P/6K1/p7/P7/8/8/8 b - -")) ≡ true
  pub free_pawn : texts (legal_moves (position_of (codes "7k/7P/6K1/p7/8/8/8/8 b - -"))) ≡ codes "a5a4" ∷ []
  -- a guarded rook beside a king in the corner leaves stalemate
  pub rook_stalemate : is_stalemate (position_of (codes "k7/1R6/2K5/8/8/8/8/8 b - -")) ≡ true
  -- a promotion mates; to a queen it may leave stalemate, to a rook not
  pub san_promotes_mate : san_text (position_of (codes "k7/2P5/1K6/8/8/8/8/8 w - -")) (promotion 50 58 Queen) ≡ codes "c8=Q#"
  pub queen_stalemates : is_stalemate (after (position_of (codes "8/5P1k/8/6K1/8/8/8/8 w - -")) (promotion 53 61 Queen)) ≡ true
  pub rook_does_not : is_stalemate (after (position_of (codes "8/5P1k/8/6K1/8/8/8/8 w - -")) (promotion 53 61 Rook)) ≡ false
  pub san_black_promotes : san_text (position_of (codes "8/8/8/8/8/1k6/2p5/K7 b - -")) (promotion 10 2 Rook) ≡ codes "c1=R#"
  -- a discovered check
  pub san_discovered : san_text (position_of (codes "4k3/8/8/8/4N3/8/8/K3R3 w - -")) (move 28 34) ≡ codes "Nc5+"
  -- six men
  pub six_men : texts (legal_moves (position_of (codes "6k1/5ppp/8/8/8/8/8/4R2K b - -"))) ≡ codes "g8f8" ∷ codes "g8h8" ∷ codes "f7f5" ∷ codes "f7f6" ∷ codes "g7g5" ∷ codes "g7g6" ∷ codes "h7h5" ∷ codes "h7h6" ∷ []
  -- the only legal move captures en passant; without the right it would be mate
  pub only_en_passant : has_move_beside_en_passant (position_of (codes "8/1Q6/8/k7/1Pp5/K7/8/8 b - b3")) ≡ false
  pub mate_without_right : is_mate (position_of (codes "8/1Q6/8/k7/1Pp5/K7/8/8 b - -")) ≡ true
  -- each fault of a text, and of men
  pub letter : fen_fault (codes "4k3/8/8/8/8/8/4x3/4K3 w - -") ≡ Some fault.Letter
  pub seven_ranks : fen_fault (codes "4k3/8/8/8/8/8/4K3 w - -") ≡ Some fault.Rank
  pub nine_ranks : fen_fault (codes "4k3/8/8/8/8/8/8/8/4K3 w - -") ≡ Some fault.Rank
  pub wide_rank : fen_fault (codes "4k4/8/8/8/8/8/8/4K3 w - -") ≡ Some fault.Rank
  pub one_man : fen_fault (codes "8/8/8/8/8/8/8/4K3 w - -") ≡ Some fault.Men
  pub seven_men : fen_fault (codes "4k3/8/8/8/8/8/NNNNN3/4K3 w - -") ≡ Some fault.Men
  pub no_king : fen_fault (codes "4q3/8/8/8/8/8/8/4K3 w - -") ≡ Some fault.Kings
  pub two_kings : fen_fault (codes "4k3/8/8/8/8/8/8/3KK3 w - -") ≡ Some fault.Kings
  pub same_square : position_fault (record { placed_men = (King, White, 0) ∷ (King, Black, 16) ∷ (Queen, White, 0) ∷ []; mover = White; en_passant = None }) ≡ Some fault.SameSquare
  pub high_pawn : fen_fault (codes "4k2p/8/8/8/8/8/8/4K3 w - -") ≡ Some fault.PawnRank
  pub no_mover : fen_fault (codes "4k3/8/8/8/8/8/8/4K3 - - -") ≡ Some fault.SideToMove
  pub fourth_rank : fen_fault (codes "4k3/8/8/8/4P3/8/8/4K3 b - e4") ≡ Some fault.EnPassant
  pub own_pawn : fen_fault (codes "4k3/8/8/8/4P3/8/8/4K3 w - e3") ≡ Some fault.EnPassant
  pub blocked_step : fen_fault (codes "4k3/8/8/8/4P3/8/4N3/4K3 b - e3") ≡ Some fault.EnPassant
  pub checked_opponent : fen_fault (codes "4k3/8/8/8/8/8/8/4R1K1 w - -") ≡ Some fault.OpponentInCheck
  pub one_counter : fen_fault (codes "4k3/8/8/8/8/8/8/4K3 w - - 0") ≡ Some fault.Counters
  pub ten_digits : fen_fault (codes "4k3/8/8/8/8/8/8/4K3 w - - 0 1000000000") ≡ Some fault.Counters
  -- the first fault counts
  pub first_fault : fen_fault (codes "4k3/8/8/8/8/8/8/3KK3 x KQ e4 a") ≡ Some fault.Kings
  -- a text without a fault, and its counters
  pub sound : fen_fault (codes "4k3/8/8/8/4Pp2/8/8/4K3 b - e3 0 41") ≡ None
  pub halfmove : (record_of (codes "4k3/8/8/8/8/8/4P3/4K3 w - - 99 123")).halfmove ≡ 99
  pub fullmove : (record_of (codes "4k3/8/8/8/8/8/4P3/4K3 w - - 99 123")).fullmove ≡ 123
  pub no_counters : (record_of (codes "4k3/8/8/8/8/8/4P3/4K3 w - -")).fullmove ≡ 1
  -- a position's text
  pub fen_pawn : fen_text (position_of (codes "4k3/8/8/8/8/8/4P3/4K3 w - -")) ≡ codes "4k3/8/8/8/8/8/4P3/4K3 w - -"
  pub fen_passed : fen_text (position_of (codes "8/8/8/3pP3/8/8/8/k6K w - d6")) ≡ codes "8/8/8/3pP3/8/8/8/k6K w - d6"
  pub fen_queens : fen_text (position_of (codes "QQ6/1Q1Q4/8/8/8/8/k7/7K b - -")) ≡ codes "QQ6/1Q1Q4/8/8/8/8/k7/7K b - -"
  -- moves as players write them
  pub san_knight : san_text (position_of (codes "4k3/8/8/8/8/8/8/4K1N1 w - -")) (move 6 21) ≡ codes "Nf3"
  pub san_pawn : san_text (position_of (codes "4k3/8/8/8/8/8/4P3/4K3 w - -")) (move 12 28) ≡ codes "e4"
  pub san_passing : san_text (position_of (codes "8/8/8/3pP3/8/8/8/k6K w - d6")) (move 36 43) ≡ codes "exd6"
  pub san_file : san_text (position_of (codes "4k3/8/8/8/8/8/8/1N2KN2 w - -")) (move 1 11) ≡ codes "Nbd2"
  pub san_rank : san_text (position_of (codes "4k3/8/8/R7/8/8/8/R3K3 w - -")) (move 0 16) ≡ codes "R1a3"
  pub san_both : san_text (position_of (codes "6k1/8/8/8/8/Q7/8/Q1Q1K3 w - -")) (move 0 18) ≡ codes "Qa1c3"
  pub san_pinned : san_text (position_of (codes "4r1k1/8/8/8/8/4N3/8/1N2K3 w - -")) (move 1 18) ≡ codes "Nc3"
  pub san_promotes : san_text (position_of (codes "7k/4P3/8/8/8/8/8/K7 w - -")) (promotion 52 60 Queen) ≡ codes "e8=Q+"
  pub san_takes : san_text (position_of (codes "3r3k/4P3/8/8/8/8/8/K7 w - -")) (promotion 52 59 Knight) ≡ codes "exd8=N"
  pub san_mate : san_text (position_of (codes "7k/8/6K1/8/8/8/8/R7 w - -")) (move 0 56) ≡ codes "Ra8#"
