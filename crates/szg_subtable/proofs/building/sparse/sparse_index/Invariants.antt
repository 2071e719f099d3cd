use Rattle.std.proofs.Common.{◌≡◌, ◌<◌, ◌≤◌, length, map}
use Rattle.szg_block.specs.Block.{start}
use Rattle.szg_block.specs.Sound.{middle_of_span}
use Rattle.szg_block.specs.Indexed.{entry_of}
use Rattle.szg_subtable.specs.Building.{IsIndexOf}
use Rattle.szg_subtable.proofs.building.sparse.sparse_index.Given as goal

-- the entries of the spans so far, and a block that starts at the middle of the next span or before it
abbrev pub invariant-loop-span_number : goal.invariant-loop-span_number
invariant-loop-span_number l = record {
  count : length l.sparse.items ≡ l.span_number;
  index : IsIndexOf l.lengths l.span_bits (map entry_of l.sparse.items);
  there : l.walk.block < length l.lengths;
  at : l.walk.start ≡ start l.lengths l.walk.block;
  from : l.walk.start ≤ middle_of_span l.span_bits l.span_number;
}
