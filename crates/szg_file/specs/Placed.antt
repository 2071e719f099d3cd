-- Subtables whose blocks are not in memory.
use Rattle.std.specs.Prelude.{ℕ, ◌≡◌, ◌&&◌, nat_eq, position, slice_get, Some, ◌+◌, ◌*◌, ◌^◌, ◌≤◌, List, length, drop, IfSome}
use Rattle.szg_block.specs.BlocksTrait.{bytes_at}
use Rattle.szg_block.specs.Subtable.{layout_of}
use Rattle.szg_block.specs.declared.Sub.{Sub}
use Rattle.szg_block.specs.declared.Sub.TheVariants.{Constant, Pairs}
use Rattle.szg_file.specs.Blocks.{with_blocks}
use Rattle.szg_file.specs.Accepted.{IsSubtable}
use Rattle.szg_file.specs.Contents.{Slot, Subtable}
use Rattle.szg_file.specs.Held.{subtable_of}
use Rattle.szg_file.specs.declared.reading.dropping.PlacedSub.{PlacedSub}

-- the bytes moved after those that had been moved before
abbrev pub since : List ℕ → List ℕ → List ℕ
since old new = drop (length old) new

-- the number of bytes of a subtable's blocks
abbrev pub blocks_size : Sub → ℕ
blocks_size (Constant flags byte) = 0
blocks_size (Pairs flags block_bits span_bits extra blocks code dict sparse lengths packed) = blocks * 2 ^ block_bits

-- the subtable with the blocks at their offset in `bytes`
abbrev pub whole_sub : List ℕ → PlacedSub → Subtable
whole_sub bytes placed = with_blocks (subtable_of placed.sub) (bytes_at bytes placed.first (blocks_size placed.sub))

-- the subtable's blocks end within `count` bytes, and a buffer of `room` bytes holds each of them
pub record Fits (count room : ℕ) (placed : PlacedSub) : Type 0 where
  pub inside : placed.first + blocks_size placed.sub ≤ count
  pub roomy : IfSome (layout_of placed.sub) (λ layout. 2 ^ layout.block_bits ≤ room)

-- the subtable's blocks are within `content`, and with them every check accepts the subtable
pub record IsPlacedIn (content : List ℕ) (slot : Slot) (placed : PlacedSub) : Type 0 where
  pub is_valid : IsSubtable slot (whole_sub content placed)
  pub inside : placed.first + blocks_size placed.sub ≤ length content

-- this is the first slot of a part and side, and the subtable of that slot
abbrev pub IsSlotted : List Slot → List PlacedSub → ℕ → ℕ → Slot → PlacedSub → Type 0
IsSlotted slots subs part side slot placed =
    (n : ℕ) × (position (λ slot. nat_eq slot.part part && nat_eq slot.side side) slots ≡ Some n) × (slice_get slots n ≡ Some slot) × (slice_get subs n ≡ Some placed)
