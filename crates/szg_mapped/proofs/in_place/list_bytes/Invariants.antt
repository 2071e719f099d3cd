use Rattle.std.proofs.Common.{◌≡◌, take, sum_by}
use Rattle.szg_mapped.specs.InPlace.{lengths_size, sparse_size}
use Rattle.szg_mapped.proofs.in_place.list_bytes.Given as goal

-- the bytes of the lists so far
abbrev pub invariant-subtables : goal.invariant-subtables
invariant-subtables l = record {
  sparse : l.sparse_bytes ≡ sum_by sparse_size (take l.placed-index l.subs);
  lengths : l.length_bytes ≡ sum_by lengths_size (take l.placed-index l.subs);
}
