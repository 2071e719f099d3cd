-- Definitions for the readers of blocks.
use Rattle.std.specs.Prelude.{ℕ, List}
use Rattle.szg_file.specs.Contents.{Subtable, constant, pairs}

-- a subtable with its blocks replaced
abbrev pub with_blocks : Subtable → List ℕ → Subtable
with_blocks (constant flags byte) blocks = constant flags byte
with_blocks (pairs head sparse lengths packed) blocks = pairs head sparse lengths blocks
