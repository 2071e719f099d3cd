use Rattle.std.proofs.Common.{◌≡◌, ◌≤◌, ◌-◌, ◌*◌, ◌++◌, true}
use Rattle.arrayvec.specs.ArrayVec.{array_vec_len}
use Rattle.szg_chess.specs.Fen.{are_ranks, men_of_ranks}
use Rattle.szg_chess.proofs.fen.men_of_board.Given as goal

abbrev pub invariant-loop-rank : goal.invariant-loop-rank
invariant-loop-rank l = record {
  men : l.men.items ++ men_of_ranks (8 - l.rank) l.left ≡ men_of_ranks 8 l.board;
  wide : are_ranks (8 - l.rank) l.left ≡ true;
  few : array_vec_len l.men ≤ 8 * l.rank;
}
