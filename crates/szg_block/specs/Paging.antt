-- Public views of blocks that are read from a source.
use Rattle.std.specs.Prelude.{ℕ, length, min}
use Rattle.szg_block.specs.declared.paged.Paged.{Paged}

abbrev pub source_of : {S : Type 0} → Paged S → S
source_of paged = paged.source

-- the length of the buffer that blocks are read into
abbrev pub buffer_len_of : {S : Type 0} → Paged S → ℕ
buffer_len_of paged = length paged.buffer.items

-- the offset of the first block, the number of blocks, and the number of bytes of each: at most the buffer's length
abbrev pub first_of : {S : Type 0} → Paged S → ℕ
first_of paged = paged.at

abbrev pub count_of : {S : Type 0} → Paged S → ℕ
count_of paged = paged.blocks

abbrev pub size_of : {S : Type 0} → Paged S → ℕ
size_of paged = min paged.size (length paged.buffer.items)
