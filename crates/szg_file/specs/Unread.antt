-- A table file whose blocks are not read: its format up to the block lengths, and the computed offsets of its
-- blocks.
use Rattle.std.specs.Prelude.{ℕ, ◌≡◌, ◌+◌, ◌*◌, ◌^◌, ◌<◌, ◌≤◌, List, [], ◌∷◌, ◌⊎◌, length, Option, option_and_then, slice_get, take, Some}
use Rattle.szg_values.specs.declared.Kind.{Kind}
use Rattle.szg_values.specs.Material.{Sides}
use Rattle.szg_block.specs.Block.{block_at, block_values}
use Rattle.szg_block.specs.BlocksTrait.{bytes_at}
use Rattle.szg_block.specs.Sound.{SpellsNeeded, entry_count}
use Rattle.szg_block.specs.Steps.{block_location}
use Rattle.szg_file.specs.declared.fault.Reason.TheVariants as reason
use Rattle.szg_file.specs.Accepted.{AreNumbers, IsAccepted, IsHead, HasIndex}
use Rattle.szg_file.specs.Blocks.{with_blocks}
use Rattle.szg_file.specs.Contents.{Contents, Part, Map, Subtable, constant, pairs, layout_of, gap, Slot, slots, part_numbers}
use Rattle.szg_file.specs.File.{Begun, begun, file, each, magic_field, byte4_field, part_field, filled_to, head_field, maps_field, sparse_field, lengths_field}
use Rattle.szg_file.specs.FilePieces.{opening_field, ending_field}
use Rattle.szg_file.specs.Format.{Format, means, field, ◌>>=◌, ◌>>◌, Verdict, good, refused, truncated, verdict}
use Rattle.szg_file.specs.Opened.{table_of, table_in}
use Rattle.szg_file.specs.Values.{item, constant_value, subtable_at, values_of}

-- ---- the format

-- the blocks of a subtable as bytes, whatever they spell
abbrev pub unread_of : Subtable → Format Subtable
unread_of (constant flags byte) = means (constant flags byte)
unread_of (pairs head sparse lengths packed) = do
  filled_to 64
  packed ← field (head.blocks * 2 ^ head.block_bits) means
  means (pairs head sparse lengths packed)

abbrev pub unread_field : Begun → Format Subtable
unread_field begun = unread_of begun.subtable

-- the format of a table file, with the format of a subtable's blocks as a parameter; with `blocks_field` it is
-- `file`
abbrev pub file_by : (Begun → Format Subtable) → Sides → Kind → Format Contents
file_by blocks material kind = do
  magic_field kind
  byte ← byte4_field material kind
  parts ← each (λ _. part_field material kind) (part_numbers material)
  filled_to 2
  heads ← each head_field (slots material kind parts)
  found ← maps_field kind heads
  indexed ← each sparse_field (begun (slots material kind parts) heads)
  measured ← each lengths_field indexed
  subtables ← each blocks measured
  filled_to 64
  last ← field 16 means
  means (record { material = material; kind = kind; byte4 = byte; parts = parts; subtables = subtables; maps = found; last = last })

-- the format of a table file whose blocks are not checked
abbrev pub unread_file : Sides → Kind → Format Contents
unread_file material kind = file_by unread_field material kind

-- ---- the front, and what follows it

-- the contents that are read before the blocks
pub record FrontRead : Type 0 where
  pub byte4 : ℕ
  pub parts : List Part
  pub maps : List (Option Map)
  pub measured : List Begun

-- all fields up to the block lengths
abbrev pub front_field : Sides → Kind → Format FrontRead
front_field material kind =
    opening_field material kind >>= λ o.
    each sparse_field (begun (slots material kind o.parts) o.heads) >>= λ indexed.
    each lengths_field indexed >>= λ measured.
    means (record { byte4 = o.byte4; parts = o.parts; maps = o.maps; measured = measured })

-- the table of a front with these subtables and last bytes
abbrev pub unread_table : Sides → Kind → FrontRead → List Subtable → List ℕ → Contents
unread_table material kind f subtables last =
    record { material = material; kind = kind; byte4 = f.byte4; parts = f.parts; subtables = subtables; maps = f.maps; last = last }

-- the blocks, by the format of a subtable's blocks, and the last bytes
abbrev pub after_front : (Begun → Format Subtable) → Sides → Kind → FrontRead → Format Contents
after_front blocks material kind f = each blocks f.measured >>= λ subtables. ending_field >>= λ last. means (unread_table material kind f subtables last)

-- the first `place` bytes are a whole front
pub record BeginsWithFront (material : Sides) (kind : Kind) (f : FrontRead) (place : ℕ) (content : List ℕ) : Type 0 where
  pub small : AreNumbers 1 (take place content)
  pub filled : List ℕ
  pub whole : verdict (front_field material kind) 0 (take place content) ≡ good f filled []
  pub inside : place ≤ length content

-- ---- its verdict compared with that of the file

abbrev pub NotRefused : {A : Type 0} → Verdict A → Type 0
NotRefused (good a filled rest) = Unit {0}
NotRefused (refused place why rest) = ⊥
NotRefused (truncated count) = Unit {0}

-- The second verdict equals the first, unless the first refuses the words of a block; then the second may be any
-- verdict but a refusal.
abbrev pub AgreesButForWords : {A : Type 0} → Verdict A → Verdict A → Type 0
AgreesButForWords (good a filled rest) w = w ≡ good a filled rest
AgreesButForWords (refused place why rest) w = (w ≡ refused place why rest) ⊎ ((why ≡ reason.Word) × NotRefused w)
AgreesButForWords (truncated count) w = w ≡ truncated count

-- The verdict without the checks of blocks agrees with the verdict in this sense, for all bytes.
abbrev pub FrontAgrees : Type 0
FrontAgrees = (material : Sides) (kind : Kind) (bytes : List ℕ) → AgreesButForWords (verdict (file material kind) 0 bytes) (verdict (unread_file material kind) 0 bytes)

-- ---- the offsets of the blocks

-- the offset of a subtable's first block; its padding begins at offset `place`
abbrev pub blocks_first : ℕ → Subtable → ℕ
blocks_first place (constant flags byte) = 0
blocks_first place (pairs head sparse lengths packed) = place + gap 64 place

-- the number of bytes of a subtable's blocks
abbrev pub blocks_count : Subtable → ℕ
blocks_count (constant flags byte) = 0
blocks_count (pairs head sparse lengths packed) = head.blocks * 2 ^ head.block_bits

-- the offset after a subtable's last block
abbrev pub blocks_end : ℕ → Subtable → ℕ
blocks_end place (constant flags byte) = place
blocks_end place (pairs head sparse lengths packed) = place + gap 64 place + head.blocks * 2 ^ head.block_bits

-- the subtables with the bytes at the offsets of their blocks, and the offset after the last block
abbrev pub unread_subs : List ℕ → ℕ → List Begun → List Subtable
unread_subs content place [] = []
unread_subs content place (begun ∷ list) =
    with_blocks begun.subtable (bytes_at content (blocks_first place begun.subtable) (blocks_count begun.subtable)) ∷ unread_subs content (blocks_end place begun.subtable) list

abbrev pub unread_end : ℕ → List Begun → ℕ
unread_end place [] = place
unread_end place (begun ∷ list) = unread_end (blocks_end place begun.subtable) list

-- ---- values

-- The block of value `i` decodes, and this is the value at its index in the block. In a constant subtable each
-- value is the same.
abbrev pub IsDecoded : Kind → Slot × Subtable → ℕ → ℕ → Type 0
IsDecoded kind (slot, constant flags byte) i value = value ≡ constant_value kind byte
IsDecoded kind (slot, pairs head sparse lengths packed) i value =
    let layout = layout_of head sparse lengths in
    let place = block_location layout i in
    let block = block_at head.block_bits packed place.list in
    SpellsNeeded layout slot.size place.list block × (slice_get (block_values layout block) place.item ≡ Some value)

-- This is the number of the block of value `i`, and the block's bits do not spell the values that it needs.
abbrev pub IsBadBlock : Slot × Subtable → ℕ → ℕ → Type 0
IsBadBlock (slot, constant flags byte) i n = ⊥
IsBadBlock (slot, pairs head sparse lengths packed) i n =
    let layout = layout_of head sparse lengths in
    (n ≡ (block_location layout i).list) × ¬ SpellsNeeded layout slot.size n (block_at head.block_bits packed n)

-- In an accepted table no value's block is bad, and a value that decodes is the value of the expansion.
abbrev pub AcceptedDecodes : Type 0
AcceptedDecodes = (t : Contents) (fill : List ℕ) → IsAccepted t fill → (part side : ℕ) (pair : Slot × Subtable) → subtable_at t part side ≡ Some pair → (i : ℕ) → i < pair.0.size →
    ((value : ℕ) → IsDecoded t.kind pair i value → item (values_of t.kind pair) i ≡ Some value) × ((n : ℕ) → IsBadBlock pair i n → ⊥)

-- ---- a table that was opened by its front

-- the table that the bytes begin with, with its blocks unchecked
abbrev pub front_in : Sides → Kind → List ℕ → Option Contents
front_in material kind bytes = table_of (verdict (unread_file material kind) 0 bytes)

-- the subtable of a part and side of that table
abbrev pub front_at : Sides → Kind → List ℕ → ℕ → ℕ → Option (Slot × Subtable)
front_at material kind bytes part side = option_and_then (λ t. subtable_at t part side) (front_in material kind bytes)

-- If the bytes begin with a table's file, their front is that table's front: no value's block is bad, and a value
-- that decodes is the value of the expansion.
abbrev pub GoodIsFront : Type 0
GoodIsFront = (material : Sides) (kind : Kind) (bytes : List ℕ) (t : Contents) → AreNumbers 1 bytes → table_in material kind bytes ≡ Some t →
    (front_in material kind bytes ≡ Some t)
    × ((part side : ℕ) (pair : Slot × Subtable) → front_at material kind bytes part side ≡ Some pair → (i : ℕ) → i < pair.0.size →
    ((value : ℕ) → IsDecoded kind pair i value → item (values_of kind pair) i ≡ Some value) × ((n : ℕ) → IsBadBlock pair i n → ⊥))

-- Every check except those of the blocks accepts the subtable: its header, sparse index and block lengths.
abbrev pub IsUnread : Slot → Subtable → Type 0
IsUnread slot (constant flags byte) = (128 ≤ flags) × (flags < 256) × (byte < 256)
IsUnread slot (pairs head sparse lengths packed) =
    IsHead head × (length sparse ≡ entry_count head.span_bits slot.size) × (length lengths ≡ head.blocks + head.extra) × HasIndex (layout_of head sparse lengths) slot.size
