-- The location of a value's block, and the block that a fault names.
use Rattle.std.specs.Prelude.{ℕ, ◌≡◌, ◌+◌, ◌*◌, ◌^◌, ◌<◌, List, IsSomeAnd}
use Rattle.szg_block.specs.Block.{block_at}
use Rattle.szg_block.specs.BlocksTrait.{bytes_at}
use Rattle.szg_block.specs.Layout.{Layout}
use Rattle.szg_block.specs.Steps.{block_location}
use Rattle.szg_block.specs.Subtable.{layout_of}
use Rattle.szg_file.specs.Contents.{Slot, Subtable, constant, pairs}
use Rattle.szg_file.specs.Unread.{IsBadBlock}
use Rattle.szg_file.specs.declared.reading.dropping.PlacedSub.{PlacedSub}
use Rattle.szg_file.specs.declared.opened.fetching.FetchFault.{FetchFault}
use Rattle.szg_file.specs.declared.opened.fetching.FetchFault.TheVariants.{Block, Source}
use Rattle.szg_file.specs.declared.opened.fetching.BlockSpot.{BlockSpot}

-- the location of value `i` by a layout whose first block is at offset `first`
pub record IsSpotAt (layout : Layout) (first i : ℕ) (spot : BlockSpot) : Type 0 where
  pub block : spot.value.block ≡ (block_location layout i).list
  pub item : spot.value.item ≡ (block_location layout i).item
  pub short : spot.value.item < 65536
  pub there : spot.value.block < layout.blocks
  pub count : spot.count ≡ 2 ^ layout.block_bits
  pub offset : spot.offset ≡ first + spot.value.block * 2 ^ layout.block_bits

abbrev pub IsSpot : PlacedSub → ℕ → BlockSpot → Type 0
IsSpot placed i spot = IsSomeAnd (layout_of placed.sub) (λ layout. IsSpotAt layout placed.first i spot)

-- the bytes of block `n` of a subtable are at `offset`
abbrev pub BlockIsAt : List ℕ → Slot × Subtable → ℕ → ℕ → Type 0
BlockIsAt content (slot, constant flags byte) n offset = ⊥
BlockIsAt content (slot, pairs head sparse lengths packed) n offset = block_at head.block_bits packed n ≡ bytes_at content offset (2 ^ head.block_bits)

-- the fault names the value's block, which does not decode, and its offset
abbrev pub NamesBadBlock : List ℕ → Slot × Subtable → ℕ → FetchFault → Type 0
NamesBadBlock content found i (Block number offset) = IsBadBlock found i number × BlockIsAt content found number offset
NamesBadBlock content found i Source = ⊥
