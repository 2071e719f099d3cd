-- The bytes that a value of a subtable needs.
use Rattle.std.specs.Prelude.{ℕ, ◌≡◌, ◌^◌, List, Option, Some, None, length, slice_get}
use Rattle.szg_block.specs.Block.{block_at, block_values}
use Rattle.szg_block.specs.Steps.{block_location}
use Rattle.szg_file.specs.Contents.{Subtable, constant, pairs, layout_of}

-- the block of value `i`; a constant subtable has none
abbrev pub wanted_block : Subtable → ℕ → Option (List ℕ)
wanted_block (constant flags byte) i = None
wanted_block (pairs head sparse lengths packed) i =
    Some (block_at head.block_bits packed (block_location (layout_of head sparse lengths) i).list)

-- The value that a look-up of value `i` returns for the bytes in `chunk`, which may be those of another block: the
-- value that their words spell at value `i`'s index in its block. None if they spell fewer values, or do not have
-- the length of a block. Of a constant subtable it says nothing.
abbrev pub IsSpelledBy : List ℕ → Subtable → ℕ → Option ℕ → Type 0
IsSpelledBy chunk (constant flags byte) i stated = Unit {0}
IsSpelledBy chunk (pairs head sparse lengths packed) i stated =
    let layout = layout_of head sparse lengths in
    (length chunk ≡ 2 ^ head.block_bits → stated ≡ slice_get (block_values layout chunk) (block_location layout i).item)
    × (¬ (length chunk ≡ 2 ^ head.block_bits) → stated ≡ None)
