-- Positions as C passes them.
use Rattle.std.specs.Prelude.{ℕ, ◌&&◌, not, nat_lt, List, map, Option, Some, None, Result, Ok, Err, if◌then◌else◌}
use Rattle.std.specs.List.{list_all}
use Rattle.szg_chess.specs.Position.{Position, position_fault}
use Rattle.szg_chess.specs.declared.PositionFault.{PositionFault}
use Rattle.szg_chess.specs.declared.PositionFault.TheVariants as fault
use Rattle.szg_c_positions.specs.Men.{is_coded_man, placed_man_of, color_of}
use Rattle.szg_c_positions.specs.declared.men.RawMan.{RawMan}
use Rattle.szg_c_positions.specs.declared.status.TheConstants.{EN_PASSANT, IN_CHECK, MAN, MEN, PAWN_RANK, SAME_SQUARE}

abbrev pub position_status : PositionFault → ℕ
position_status fault.Letter = MAN
position_status fault.Rank = MAN
position_status fault.Men = MEN
position_status fault.Kings = MEN
position_status fault.SameSquare = SAME_SQUARE
position_status fault.PawnRank = PAWN_RANK
position_status fault.SideToMove = MAN
position_status fault.Castling = MAN
position_status fault.EnPassant = EN_PASSANT
position_status fault.OpponentInCheck = IN_CHECK
position_status fault.Counters = MAN

abbrev pub square_of : ℕ → Option ℕ
square_of number = if nat_lt number 64 then Some number else None

abbrev pub position_unless : Option PositionFault → Position → Result Position ℕ
position_unless None p = Ok p
position_unless (Some why) p = Err (position_status why)

abbrev pub coded_position : List RawMan → ℕ → ℕ → Position
coded_position men mover en_passant = record { placed_men = map placed_man_of men; mover = color_of mover; en_passant = square_of en_passant }

-- the position of men, a side to move and an en passant square, or the status that says why there is none
unfoldable pub position_of : List RawMan → ℕ → ℕ → Result Position ℕ
position_of men mover en_passant =
    if not (nat_lt mover 2 && list_all is_coded_man men) then Err MAN else
    position_unless (position_fault (coded_position men mover en_passant)) (coded_position men mover en_passant)
