-- The views of the crate's types.
use Rattle.std.specs.Prelude.{ℕ, List, map}
use Rattle.szg_block.specs.declared.Sub.{Sub}
use Rattle.szg_block.specs.declared.Sub.TheVariants as sub_variants
use Rattle.szg_block.specs.Layout.{SparseEntry}
use Rattle.szg_block.specs.declared.Entry.{Entry}
use Rattle.szg_file.specs.declared.table.PartBytes.{PartBytes}
use Rattle.szg_file.specs.declared.table.Map.{Map}
use Rattle.szg_file.specs.declared.table.Map.TheVariants as map_variants
use Rattle.szg_file.specs.Contents as held
use Rattle.szg_file.specs.File as fields
use Rattle.szg_file.specs.FileOf.{file_of}
use Rattle.szg_file.specs.Format.{Format, means, fill, ◌>>=◌}

-- a table: its contents without padding bytes, and its padding bytes in file order
pub record Shown : Type 0 where
  pub contents : held.Contents
  pub filled : List ℕ

abbrev pub part_of : PartBytes → held.Part
part_of part = record { order = part.order.items; men = part.men.items }

abbrev pub sparse_of : Entry → SparseEntry
sparse_of entry = record { block = entry.block; offset = entry.offset }

-- the subtable that is in memory
abbrev pub subtable_of : Sub → held.Subtable
subtable_of (sub_variants.Constant flags byte) = held.constant flags byte
subtable_of (sub_variants.Pairs flags block_bits span_bits extra blocks code dict sparse lengths packed) =
    held.pairs (record { flags = flags; block_bits = block_bits; span_bits = span_bits; extra = extra; blocks = blocks; code = code; entries = dict })
    (map sparse_of sparse.items) lengths.items packed.items

abbrev pub map_of : Map → held.Map
map_of (map_variants.Bytes lists) = held.narrow (map (λ list. list.items) lists)
map_of (map_variants.Wide lists) = held.wide (map (λ list. list.items) lists)

-- the table's file
abbrev pub file_bytes : Shown → List ℕ
file_bytes t = file_of t.contents t.filled

-- ---- lists of numbers, as one field

-- `count` two-byte numbers
abbrev pub numbers_field : ℕ → Format (List ℕ)
numbers_field count = fields.rows_field 2 count >>= λ rows. means (map held.number_of rows)

-- `count` entries of a sparse index
abbrev pub sparse_rows : ℕ → Format (List SparseEntry)
sparse_rows count = fields.rows_field 6 count >>= λ rows. means (map fields.entry_of_bytes rows)

-- `count` padding bytes
abbrev pub spare_field : ℕ → Format (Unit {0})
spare_field count = fill count (means tt)
