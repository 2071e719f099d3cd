use Rattle.std.proofs.Common.{◌+◌, ◌≤◌, length, take, drop, sum_by}
use Rattle.szg_file.specs.Accepted.{SideBySide}
use Rattle.szg_mapped.specs.InPlace.{lengths_size, sparse_size, AreLengthsFrom, AreSparseFrom, Stands}
use Rattle.szg_mapped.proofs.in_place.put_in_place.Given as goal

-- the subtables so far are in place, and the lists of the others follow
abbrev pub invariant-subtables : goal.invariant-subtables
invariant-subtables l = record {
  put : SideBySide Stands (take (length l.yielded) l.fn.subs.items) l.put.items;
  sparse : AreSparseFrom l.fn.bytes l.sparse_at (drop (length l.yielded) l.fn.subs.items);
  sparse_end : l.sparse_at + sum_by sparse_size (drop (length l.yielded) l.fn.subs.items) ≤ length l.fn.bytes;
  lengths : AreLengthsFrom l.fn.bytes l.lengths_at (drop (length l.yielded) l.fn.subs.items);
  lengths_end : l.lengths_at + sum_by lengths_size (drop (length l.yielded) l.fn.subs.items) ≤ length l.fn.bytes;
}
