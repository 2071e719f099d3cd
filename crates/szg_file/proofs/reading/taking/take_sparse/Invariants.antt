use Rattle.std.proofs.Common.{◌≡◌, ◌+◌, ◌*◌, ◌≤◌, ◌-◌, length, map}
use Rattle.szg_file.specs.File.{entry_of_bytes}
use Rattle.szg_file.specs.Held.{sparse_of}
use Rattle.szg_file.proofs.Readers.RowsRead.{RowsRead}
use Rattle.szg_file.proofs.reading.taking.take_sparse.Given as goal

-- the first entries of the field were read, and are in the list
abbrev pub invariant-chunks : goal.invariant-chunks
invariant-chunks g l =
    (l.left ≤ l.count)
    × RowsRead entry_of_bytes 6 (l.count - l.left) (map sparse_of l.list.items) l.initial.state l.state g.R.Input l.initial.input l.input
    × (length l.list.items ≡ l.count - l.left)
    × (l.state.place ≡ l.initial.state.place + 6 * (l.count - l.left))
    × (l.state.growth ≡ l.initial.state.growth + 7 * (l.count - l.left))

abbrev pub decreases-chunks : goal.decreases-chunks
decreases-chunks g l = l.left
