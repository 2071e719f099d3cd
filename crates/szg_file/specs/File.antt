-- The format of a table file: its fields in file order, each with the checks that follow it.
use Rattle.std.specs.Prelude.{bytes_eq, ℕ, zero, suc, ◌+◌, ◌-◌, ◌*◌, ◌%◌, ◌^◌, ◌&&◌, not, Bool, true, false, List, [], ◌∷◌, ◌++◌, length, map, take, drop, nat_lt, nat_le, if◌then◌else◌, Option, Some, None}
use Rattle.szg_values.specs.declared.Kind.{Kind}
use Rattle.szg_values.specs.declared.Kind.TheVariants.{Wdl, Dtz}
use Rattle.szg_file.specs.declared.fault.Reason.{Reason}
use Rattle.szg_file.specs.declared.fault.Reason.TheVariants as reason
use Rattle.szg_file.specs.Format.{Format, means, refuses, field, fill, placed, ◌>>=◌, ◌>>◌}
use Rattle.szg_values.specs.Material.{Sides, is_symmetric, has_pawns, man_codes}
use Rattle.szg_count.specs.Groups.{order_fault}
use Rattle.szg_count.specs.declared.OrderFault.{OrderFault}
use Rattle.szg_count.specs.declared.OrderFault.TheVariants.{Pieces, PawnsFirst, OrderPlace}
use Rattle.szg_code.specs.Canonical.{CanonicalCode}
use Rattle.szg_code.specs.FirstFault.{first_rise, first_overfull}
use Rattle.szg_pairs.specs.FirstFault.{first_child, first_cycle, first_long}
use Rattle.szg_block.specs.Layout.{Layout, SparseEntry}
use Rattle.szg_block.specs.Sound.{entry_count}
use Rattle.szg_block.specs.FirstFault.{has_total, first_bad_entry, spells_needed}
use Rattle.szg_file.specs.Contents.{Part, Subtable, constant, pairs, layout_of, Map, narrow, wide, Contents, number_of, items, has_bit, gap, part_numbers, side_numbers, order_bytes, order_of, Slot, slots}

-- ---- parts of formats

-- a number of `size` bytes
abbrev pub number_field : ℕ → Format ℕ
number_field size = field size (λ bytes. means (number_of bytes))

-- `count` items of `size` bytes each, as one field
abbrev pub rows_field : ℕ → ℕ → Format (List (List ℕ))
rows_field size count = field (size * count) (λ bytes. means (items size count bytes))

-- a condition: if it is false, the file is refused at offset `place`
abbrev pub demand : Bool → ℕ → Reason → Format (Unit {0})
demand true place reason = means tt
demand false place reason = refuses place reason

-- a check of items: if an item fails, the file is refused at the item's offset
abbrev pub none_fails : Option ℕ → (ℕ → ℕ) → Reason → Format (Unit {0})
none_fails None place reason = means tt
none_fails (Some item) place reason = refuses (place item) reason

-- the padding up to a multiple of `unit`
abbrev pub filled_to : ℕ → Format (Unit {0})
filled_to unit = placed (λ place. fill (gap unit place) (means tt))

-- the formats of the items, in order
abbrev pub each : {A B : Type 0} → (A → Format B) → List A → Format (List B)
each format [] = means []
each format (x ∷ xs) = do
  y ← format x
  ys ← each format xs
  means (y ∷ ys)

-- ---- magic, byte 4, parts

abbrev pub magic_of : Kind → List ℕ
magic_of Wdl = 0x71 ∷ 0xE8 ∷ 0x23 ∷ 0x5D ∷ []
magic_of Dtz = 0xD7 ∷ 0x66 ∷ 0x0C ∷ 0xA5 ∷ []

abbrev pub magic_field : Kind → Format (Unit {0})
magic_field kind = field 4 (λ bytes. demand (bytes_eq bytes (magic_of kind)) 0 reason.Magic)

abbrev pub agrees : Bool → Bool → Bool
agrees true b = b
agrees false b = not b

-- bit 0 of a WDL file is set exactly if there are two sides; in a DTZ file it may be either
abbrev pub split_agrees : Sides → Kind → ℕ → Bool
split_agrees material Wdl byte = agrees (has_bit 0 byte) (not (is_symmetric material))
split_agrees material Dtz byte = true

-- bit 1 is set exactly if there are pawns; bits 2 to 7 may be anything
abbrev pub byte4_field : Sides → Kind → Format ℕ
byte4_field material kind = do
  byte ← number_field 1
  demand (split_agrees material kind byte) 4 reason.SplitBit
  demand (agrees (has_bit 1 byte) (has_pawns material)) 4 reason.PawnBit
  means byte

-- the check of a side of a part: the men are a permutation of the name's men, pawns come first, and the positions
-- of the groups are valid
abbrev pub order_check : ℕ → ℕ → Option OrderFault → Format (Unit {0})
order_check place orders None = means tt
order_check place orders (Some Pieces) = refuses (place + orders) reason.Pieces
order_check place orders (Some PawnsFirst) = refuses (place + orders) reason.PawnsFirst
order_check place orders (Some OrderPlace) = refuses place reason.OrderPlace

abbrev pub part_of_bytes : Sides → List ℕ → Part
part_of_bytes material bytes = record { order = take (order_bytes material) bytes; men = drop (order_bytes material) bytes }

abbrev pub part_checks : Sides → Kind → ℕ → Part → Format (Unit {0})
part_checks material kind place part = do
  each (λ side. order_check place (order_bytes material) (order_fault material (order_of side part))) (side_numbers material kind)
  means tt

-- the order bytes and the man bytes; then side 0 is checked, then side 1
abbrev pub part_field : Sides → Kind → Format Part
part_field material kind = placed (λ place. do
  bytes ← field (order_bytes material + length (man_codes material)) means
  part_checks material kind place (part_of_bytes material bytes)
  means (part_of_bytes material bytes))

-- ---- headers

-- a byte that satisfies `test`
abbrev pub byte_where : (ℕ → Bool) → Reason → Format ℕ
byte_where test reason = placed (λ place. do
  byte ← number_field 1
  demand (test byte) place reason
  means byte)

-- the greatest and the least code length
abbrev pub lengths_of_words : Format (ℕ × ℕ)
lengths_of_words = placed (λ place. do
  max ← number_field 1
  min ← number_field 1
  demand (nat_lt 0 min && nat_le min max && nat_le max 32) place reason.CodeLengths
  means (min, max))

-- the code of these lengths and lowest symbols; its number of symbols is read after them
abbrev pub code_with : ℕ → ℕ → List ℕ → ℕ → CanonicalCode
code_with min max lowest symbols = record { min_length = min; max_length = max; lowest = lowest; symbols = symbols }

-- no lowest symbol is above the previous one, and the words of each length fit
abbrev pub lowest_check : ℕ → CanonicalCode → Format (Unit {0})
lowest_check place code = do
  none_fails (first_rise code) (λ item. place + 2 * item) reason.LowestOrder
  none_fails (first_overfull code) (λ item. place + 2 * item) reason.TooFull

-- the lowest symbol of each length
abbrev pub lowest_list : ℕ → ℕ → Format (List ℕ)
lowest_list min max = placed (λ place. do
  list ← rows_field 2 (max + 1 - min)
  lowest_check place (code_with min max (map number_of list) 0)
  means (map number_of list))

-- the children of each pair exist, and each symbol has a finite expansion of at most 256 values
abbrev pub entries_check : ℕ → List (List ℕ) → Format (Unit {0})
entries_check place entries = do
  none_fails (first_child entries) (λ symbol. place + 3 * symbol) reason.Child
  none_fails (first_cycle entries) (λ symbol. place + 3 * symbol) reason.Cycle
  none_fails (first_long entries) (λ symbol. place + 3 * symbol) reason.LongSymbol

-- the entries of the dictionary, three bytes each, and a padding byte if their number is odd
abbrev pub dictionary : Format (List (List ℕ))
dictionary = do
  count ← number_field 2
  entries ← placed (λ place. do
    entries ← rows_field 3 count
    entries_check place entries
    means entries)
  fill (count % 2) (means entries)

abbrev pub packed_head : ℕ → Format Subtable
packed_head flags = do
  block_bits ← byte_where (λ bits. nat_le bits 18) reason.BlockBits
  span_bits ← byte_where (λ bits. nat_lt 0 bits && nat_le bits 31) reason.SpanBits
  extra ← number_field 1
  blocks ← number_field 4
  words ← lengths_of_words
  lowest ← lowest_list words.0 words.1
  entries ← dictionary
  means (pairs (record {
    flags = flags;
    block_bits = block_bits;
    span_bits = span_bits;
    extra = extra;
    blocks = blocks;
    code = code_with words.0 words.1 lowest (length entries);
    entries = entries;
  }) [] [] [])

-- with bit 7 of the flags the subtable is constant, and has one more byte
abbrev pub head_field : Slot → Format Subtable
head_field slot = do
  flags ← number_field 1
  if has_bit 7 flags then number_field 1 >>= (λ byte. means (constant flags byte)) else packed_head flags

-- ---- maps

abbrev pub list_field : ℕ → Format (List ℕ)
list_field size = do
  count ← number_field size
  list ← rows_field size count
  means (map number_of list)

-- four lists; with bit 4 of the flags their lengths and items have two bytes each and begin at an even offset
abbrev pub map_lists : ℕ → Format Map
map_lists flags =
    if has_bit 4 flags
    then (filled_to 2 >>= λ _. each list_field (2 ∷ 2 ∷ 2 ∷ 2 ∷ []) >>= λ lists. means (wide lists))
    else (each list_field (1 ∷ 1 ∷ 1 ∷ 1 ∷ []) >>= λ lists. means (narrow lists))

abbrev pub flags_of : Subtable → ℕ
flags_of (constant flags byte) = flags
flags_of (pairs head sparse lengths packed) = head.flags

-- a part has a map if bit 1 of its flags is set
abbrev pub map_field : Subtable → Format (Option Map)
map_field subtable =
    if has_bit 1 (flags_of subtable) then (map_lists (flags_of subtable) >>= λ lists. means (Some lists)) else means None

-- only DTZ files have maps; padding up to an even offset follows them
abbrev pub maps_field : Kind → List Subtable → Format (List (Option Map))
maps_field Wdl subtables = means []
maps_field Dtz subtables = do
  found ← each map_field subtables
  filled_to 2
  means found

-- ---- sparse indexes, block lengths, blocks

-- a subtable that is read in part, its slot, and the offset of its sparse index
pub record Begun : Type 0 where
  pub slot : Slot
  pub subtable : Subtable
  pub index : ℕ

abbrev pub begun : List Slot → List Subtable → List Begun
begun (slot ∷ slots) (subtable ∷ subtables) = record { slot = slot; subtable = subtable; index = 0 } ∷ begun slots subtables
begun _ _ = []

abbrev pub entry_of_bytes : List ℕ → SparseEntry
entry_of_bytes bytes = record { block = number_of (take 4 bytes); offset = number_of (drop 4 bytes) }

-- one entry per span: four bytes of block number, two of offset
abbrev pub sparse_index_of : Slot → Subtable → Format Begun
sparse_index_of slot (constant flags byte) = means (record { slot = slot; subtable = constant flags byte; index = 0 })
sparse_index_of slot (pairs head sparse lengths packed) = placed (λ place. do
  entries ← rows_field 6 (entry_count head.span_bits slot.size)
  means (record { slot = slot; subtable = pairs head (map entry_of_bytes entries) lengths packed; index = place }))

abbrev pub sparse_field : Begun → Format Begun
sparse_field begun = sparse_index_of begun.slot begun.subtable

-- the block lengths sum to at least the number of positions; each entry of the sparse index locates the middle of
-- its span
abbrev pub index_check : ℕ → ℕ → Layout → ℕ → Format (Unit {0})
index_check place index layout size = do
  demand (has_total layout size) place reason.ShortTotal
  none_fails (first_bad_entry layout) (λ item. index + 6 * item) reason.SparseEntry

-- for each block, and then for each extra length: its number of values less one
abbrev pub lengths_of : Slot → ℕ → Subtable → Format Begun
lengths_of slot index (constant flags byte) = means (record { slot = slot; subtable = constant flags byte; index = index })
lengths_of slot index (pairs head sparse lengths packed) = placed (λ place. do
  list ← rows_field 2 (head.blocks + head.extra)
  index_check place index (layout_of head sparse (map number_of list)) slot.size
  means (record { slot = slot; subtable = pairs head sparse (map number_of list) packed; index = index }))

abbrev pub lengths_field : Begun → Format Begun
lengths_field begun = lengths_of begun.slot begun.index begun.subtable

-- the block's own bits spell the values that it needs
abbrev pub block_field : Layout → ℕ → ℕ → Format (List ℕ)
block_field layout size n = placed (λ place. do
  bytes ← field (2 ^ layout.block_bits) means
  demand (spells_needed layout size n bytes) place reason.Word
  means bytes)

-- `count` blocks from block `n` on
abbrev pub blocks_from : Layout → ℕ → ℕ → ℕ → Format (List ℕ)
blocks_from layout size n zero = means []
blocks_from layout size n (suc count) = do
  bytes ← block_field layout size n
  more ← blocks_from layout size (n + 1) count
  means (bytes ++ more)

-- the blocks begin at a multiple of 64
abbrev pub blocks_of : Slot → Subtable → Format Subtable
blocks_of slot (constant flags byte) = means (constant flags byte)
blocks_of slot (pairs head sparse lengths packed) = do
  filled_to 64
  packed ← blocks_from (layout_of head sparse lengths) slot.size 0 head.blocks
  means (pairs head sparse lengths packed)

abbrev pub blocks_field : Begun → Format Subtable
blocks_field begun = blocks_of begun.slot begun.subtable

-- ---- the whole file

abbrev pub file : Sides → Kind → Format Contents
file material kind = do
  magic_field kind
  byte ← byte4_field material kind
  parts ← each (λ _. part_field material kind) (part_numbers material)
  filled_to 2
  heads ← each head_field (slots material kind parts)
  found ← maps_field kind heads
  indexed ← each sparse_field (begun (slots material kind parts) heads)
  measured ← each lengths_field indexed
  subtables ← each blocks_field measured
  filled_to 64
  last ← field 16 means
  means (record { material = material; kind = kind; byte4 = byte; parts = parts; subtables = subtables; maps = found; last = last })
