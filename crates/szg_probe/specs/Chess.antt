-- Chess as a game with a counter, on positions of two to six men without castling.
use Rattle.std.specs.Prelude.{ℕ, Bool, map, None}
use Rattle.szg_game.specs.Game.{Game, HasClass}
use Rattle.szg_game.specs.declared.Class.{Class}
use Rattle.szg_chess.specs.Position.{Position}
use Rattle.szg_chess.specs.Moves.{after, is_zeroing, legal_moves, is_check}
use Rattle.szg_chess.specs.declared.Move.{Move}

-- what a move leads to, and whether it is zeroing
abbrev pub step_of : Position → Move → Position × Bool
step_of p m = (after p m, is_zeroing p m)

abbrev pub chess : Game Position
chess = record { moves = λ p. map (step_of p) (legal_moves p); in_check = is_check }

-- the limit of the fifty-move rule, in plies
abbrev pub ply_limit : ℕ
ply_limit = 100

-- the position has this class at counter 0
abbrev pub ChessClass : Position → Class → Type 0
ChessClass p k = HasClass chess ply_limit p k

-- the position without the right to capture en passant
abbrev pub without_right : Position → Position
without_right p = record { placed_men = p.placed_men; mover = p.mover; en_passant = None }
