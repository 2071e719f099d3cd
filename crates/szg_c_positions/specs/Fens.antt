-- Positions as texts name them, for C.
use Rattle.std.specs.Prelude.{ℕ, ◌≡◌, List, not, take, Option, Some, None, Result, Ok, Err, if◌then◌else◌}
use Rattle.std.specs.Str.{is_utf8}
use Rattle.szg_chess.specs.Fen.{fen_fault, record_of}
use Rattle.szg_chess.specs.declared.FenRecord.{FenRecord}
use Rattle.szg_chess.specs.declared.PositionFault.{PositionFault}
use Rattle.szg_c_positions.specs.Men.{IsWritten}
use Rattle.szg_c_positions.specs.Positions.{position_of, position_status}
use Rattle.szg_c_positions.specs.declared.fens.RawPosition.{RawPosition}
use Rattle.szg_c_positions.specs.declared.status.TheConstants.{MAN}

-- what a text says, unless it has a fault
abbrev pub record_unless : Option PositionFault → FenRecord → Result FenRecord ℕ
record_unless None said = Ok said
record_unless (Some why) said = Err (position_status why)

-- what the bytes of a text in Forsyth-Edwards Notation say, or the status that says why they are none
unfoldable pub fen_result : List ℕ → Result FenRecord ℕ
fen_result text = if not (is_utf8 text) then Err MAN else record_unless (fen_fault text) (record_of text)

-- a square's number; 64 for none
abbrev pub square_code : Option ℕ → ℕ
square_code None = 64
square_code (Some square) = square

-- the men, the side to move, the en passant square and the fifty-move counter of a text are written as numbers, and the calls on a
-- tablebase take them as the text's position
pub record IsRead (said : FenRecord) (before after : RawPosition) : Type 0 where
  pub placed : IsWritten (record { placed_men = said.position.placed_men; mover = said.position.mover }) before.men after.men after.count after.mover
  pub passed : after.en_passant ≡ square_code said.position.en_passant
  pub plies : after.counter ≡ said.halfmove
  pub fit : position_of (take after.count after.men) after.mover after.en_passant ≡ Ok said.position
