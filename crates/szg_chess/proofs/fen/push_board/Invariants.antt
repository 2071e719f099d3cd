use Rattle.std.proofs.Common.{◌≡◌, ◌≤◌, ◌*◌, ◌-◌, ◌++◌}
use Rattle.arrayvec.specs.ArrayString.{array_string_len}
use Rattle.szg_chess.specs.Fen.{ranks_text}
use Rattle.szg_chess.proofs.fen.push_board.Given as goal

abbrev pub invariant-loop-rank : goal.invariant-loop-rank
invariant-loop-rank l = record {
  text : l.text.bytes ++ ranks_text l.men (8 - l.rank) ≡ l.initial.text.bytes ++ ranks_text l.men 8;
  len : array_string_len l.text ≤ 9 * l.rank;
}
