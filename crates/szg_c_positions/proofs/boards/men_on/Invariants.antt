use Rattle.std.proofs.Common.{◌≡◌, ◌-◌, ◌<◌, ◌≤◌, length, true}
use Rattle.szg_chess.specs.Squares.{is_in}
use Rattle.szg_c_positions.proofs.MenOnBoard.{so_far}
use Rattle.szg_c_positions.proofs.boards.men_on.Given as goal

abbrev pub invariant-loop-number : goal.invariant-loop-number
invariant-loop-number l = record {
  within : l.number ≤ 64;
  found : l.number < 64 → is_in l.squares l.number ≡ true;
  few : length l.men.items ≤ 6;
  men : l.men.items ≡ so_far l.board l.squares l.number;
}

abbrev pub decreases-loop-number : goal.decreases-loop-number
decreases-loop-number l = 64 - l.number
