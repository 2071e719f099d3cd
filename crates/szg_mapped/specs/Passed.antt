-- The blocks of a table's file that have passed.
use Rattle.std.specs.Prelude.{ℕ, ◌≡◌, ◌+◌, ◌*◌, ◌/◌, ◌%◌, ◌<◌, List, IfSome, IsSomeAnd, slice_get, slice_index}
use Rattle.std.specs.Int.{bit_at}
use Rattle.szg_block.specs.Block.{block_at}
use Rattle.szg_block.specs.Sound.{SpellsNeeded}
use Rattle.szg_file.specs.Contents.{Slot, Subtable, constant, pairs, layout_of}
use Rattle.szg_file.specs.Index.{Index}
use Rattle.szg_file.specs.Unread.{front_at}
use Rattle.szg_mapped.specs.declared.passed.Passed.{Passed}

-- bit n of words of 64 bits, counted from the lowest bit of the first word, is set
abbrev pub IsSet : List ℕ → ℕ → Type 0
IsSet words n = bit_at (slice_index words (n / 64)) (n % 64) ≡ 1

-- block n of a part's side is noted
abbrev pub IsNoted : Passed → ℕ → ℕ → ℕ → Type 0
IsNoted passed part side n = (side < 2) × IsSomeAnd (slice_get passed.sets (2 * part + side)) (λ set. IsSet set.items n)

-- the bits of block n of a subtable spell the values that it needs; a constant subtable has no block
abbrev pub BlockPasses : Slot × Subtable → ℕ → Type 0
BlockPasses (slot, constant flags byte) n = Unit {0}
BlockPasses (slot, pairs head sparse lengths packed) n = SpellsNeeded (layout_of head sparse lengths) slot.size n (block_at head.block_bits packed n)

-- each noted block passes
abbrev pub ArePassed : Index → List ℕ → Passed → Type 0
ArePassed index content passed =
    (part side n : ℕ) → IsNoted passed part side n → IfSome (front_at index.material index.kind content part side) (λ found. BlockPasses found n)
