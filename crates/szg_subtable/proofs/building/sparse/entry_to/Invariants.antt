use Rattle.std.proofs.Common.{◌≡◌, ◌-◌, ◌<◌, ◌≤◌, length}
use Rattle.szg_block.specs.Block.{start}
use Rattle.szg_subtable.proofs.building.sparse.entry_to.Given as goal

-- the block is there, and starts at the index or before it
abbrev pub invariant-ahead : goal.invariant-ahead
invariant-ahead l = record {
  there : l.walk.block < length l.lengths;
  at : l.walk.start ≡ start l.lengths l.walk.block;
  from : l.walk.start ≤ l.index;
}

abbrev pub decreases-ahead : goal.decreases-ahead
decreases-ahead l = length l.lengths - l.walk.block
