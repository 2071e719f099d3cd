use Rattle.std.proofs.Common.{◌≡◌, ◌≤◌, ◌+◌, ◌-◌, ◌++◌}
use Rattle.arrayvec.specs.ArrayString.{array_string_len}
use Rattle.szg_chess.specs.Fen.{squares_text}
use Rattle.szg_chess.proofs.Writing.{after_empties}
use Rattle.szg_chess.proofs.fen.push_squares.Given as goal

abbrev pub invariant-loop-file : goal.invariant-loop-file
invariant-loop-file l = record {
  text : l.text.bytes ++ after_empties l.empty (squares_text l.men (8 - l.file) (l.first + l.file)) ≡ l.initial.text.bytes ++ squares_text l.men 8 l.first;
  few : l.empty ≤ l.file;
  len : array_string_len l.text + l.empty ≤ array_string_len l.initial.text + l.file;
}
