-- The subtable that a look-up finds.
use Rattle.std.specs.Prelude.{◌≡◌, ℕ, Option, IsSomeAnd}
use Rattle.szg_block.specs.declared.Sub.{Sub}
use Rattle.szg_block.specs.declared.Sub.TheVariants as sub_variants
use Rattle.szg_file.specs.Contents.{Slot, Subtable}

-- there is a subtable with this size and these contents
abbrev pub IsFound : Option (Slot × Subtable) → ℕ → Subtable → Type 0
IsFound found size subtable = IsSomeAnd found (λ pair. (pair.0.size ≡ size) × (pair.1 ≡ subtable))

-- the byte of a constant subtable, else 0
abbrev pub byte_of : Sub → ℕ
byte_of (sub_variants.Constant flags byte) = byte
byte_of (sub_variants.Pairs flags block_bits span_bits extra blocks code dict sparse lengths packed) = 0
