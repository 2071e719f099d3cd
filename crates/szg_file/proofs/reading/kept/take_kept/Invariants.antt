use Rattle.std.proofs.Common.{◌≡◌, ℕ, ◌+◌, ◌*◌, ◌≤◌, ◌-◌, List, length}
use Rattle.szg_file.specs.Contents.{number_of}
use Rattle.szg_file.specs.Kept.{IsKept}
use Rattle.szg_file.proofs.Readers.RowsRead.{RowsRead}
use Rattle.szg_file.proofs.reading.kept.take_kept.Given as goal

-- the first numbers of the field were read, and passed
abbrev pub invariant-chunks : goal.invariant-chunks
invariant-chunks g l = record {
  left : l.left ≤ l.count;
  list : List ℕ;
  kept : IsKept l.limit l.last list l.kept;
  rows : RowsRead number_of 2 (l.count - l.left) list l.initial.state l.state g.R.Input l.initial.input l.input;
  seen : l.kept.seen ≡ l.count - l.left;
  place : l.state.place ≡ l.initial.state.place + 2 * (l.count - l.left);
  growth : l.state.growth ≡ l.initial.state.growth + 4 * (l.count - l.left);
  fill : length l.state.fill.items ≤ length l.initial.state.fill.items;
}

abbrev pub decreases-chunks : goal.decreases-chunks
decreases-chunks g l = l.left
