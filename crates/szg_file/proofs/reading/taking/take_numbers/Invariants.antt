use Rattle.std.proofs.Common.{◌≡◌, ◌+◌, ◌*◌, ◌≤◌, ◌-◌, length}
use Rattle.szg_file.specs.Contents.{number_of}
use Rattle.szg_file.proofs.Readers.RowsRead.{RowsRead}
use Rattle.szg_file.proofs.reading.taking.take_numbers.Given as goal

-- the first numbers of the field were read, and are in the list
abbrev pub invariant-chunks : goal.invariant-chunks
invariant-chunks g l =
    (l.left ≤ l.count)
    × RowsRead number_of 2 (l.count - l.left) l.list.items l.initial.state l.state g.R.Input l.initial.input l.input
    × (length l.list.items ≡ l.count - l.left)
    × (l.state.place ≡ l.initial.state.place + 2 * (l.count - l.left))
    × (l.state.growth ≡ l.initial.state.growth + 3 * (l.count - l.left))

abbrev pub decreases-chunks : goal.decreases-chunks
decreases-chunks g l = l.left
