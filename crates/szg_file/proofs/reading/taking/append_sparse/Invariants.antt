use Rattle.std.proofs.Common.{◌≡◌, ◌+◌, ◌++◌, length, map}
use Rattle.szg_file.specs.Contents.{items}
use Rattle.szg_file.specs.File.{entry_of_bytes}
use Rattle.szg_file.specs.Held.{sparse_of}
use Rattle.szg_file.proofs.reading.taking.append_sparse.Given as goal

-- the rows so far are appended
abbrev pub invariant-rows : goal.invariant-rows
invariant-rows l =
    (map sparse_of l.list.items ≡ map sparse_of l.initial.list.items ++ map entry_of_bytes (items 6 l.i l.rows))
    × (length l.list.items ≡ length l.initial.list.items + l.i)
