-- The sparse index and the block lengths of a subtable, apart from its header.
use Rattle.std.specs.Prelude.{ℕ, ◌≡◌, List}
use Rattle.szg_block.specs.Layout.{Layout, SparseEntry}
use Rattle.szg_block.specs.Sound.{IsShapedLayout, HasTotal, HasGoodEntry}
use Rattle.szg_block.specs.Steps.{block_location, move_count}
use Rattle.szg_block.specs.declared.Entry.{Entry}
use Rattle.szg_block.specs.declared.probing.ValueLocation.{ValueLocation}

abbrev pub entry_of : Entry → SparseEntry
entry_of entry = record { block = entry.block; offset = entry.offset }

-- the layout has this sparse index and these block lengths, and they are sound for its header and `size` values
pub record IsSoundIndex (sparse : List SparseEntry) (lengths : List ℕ) (blocks span_bits : ℕ) (layout : Layout) (size : ℕ) : Type 0 where
  pub sparse_is : layout.sparse ≡ sparse
  pub lengths_are : layout.lengths ≡ lengths
  pub blocks_are : layout.blocks ≡ blocks
  pub span_bits_are : layout.span_bits ≡ span_bits
  pub shaped : IsShapedLayout layout size
  pub total : HasTotal layout size
  pub entries : (j : ℕ) → HasGoodEntry layout j

-- the location of value i: its block, its index in it, and the moves to that block from that of the sparse entry
pub record IsLocationOf (layout : Layout) (i : ℕ) (location : ValueLocation) : Type 0 where
  pub block : location.block ≡ (block_location layout i).list
  pub item : location.item ≡ (block_location layout i).item
  pub moves : location.moves ≡ move_count layout i
