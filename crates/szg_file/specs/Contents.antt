-- The contents of a table file, and what determines the lengths of its fields.
use Rattle.std.specs.Prelude.{ℕ, zero, suc, ◌+◌, ◌-◌, ◌*◌, ◌/◌, ◌%◌, ◌^◌, Bool, List, [], ◌∷◌, ◌++◌, map, take, drop, ◌==◌, if◌then◌else◌, Option}
use Rattle.szg_values.specs.declared.Kind.{Kind}
use Rattle.szg_values.specs.declared.Kind.TheVariants.{Wdl, Dtz}
use Rattle.szg_values.specs.Material.{Sides, is_symmetric, has_pawns}
use Rattle.szg_count.specs.Groups.{Nibbles, nibbles_of, has_other_pawns, size_of}
use Rattle.szg_code.specs.Canonical.{CanonicalCode}
use Rattle.szg_block.specs.Layout.{Layout, SparseEntry}

-- the bytes of a part: one or two order bytes, and one byte per man
pub record Part : Type 0 where
  pub order : List ℕ
  pub men : List ℕ

-- the header of a subtable that is not constant: its flags, block bits, span bits, the numbers of extra lengths and
-- of blocks, its code, and the entries of its dictionary
pub record Head : Type 0 where
  pub flags : ℕ
  pub block_bits : ℕ
  pub span_bits : ℕ
  pub extra : ℕ
  pub blocks : ℕ
  pub code : CanonicalCode
  pub entries : List (List ℕ)

-- a constant subtable has flags and one byte; any other has a header, a sparse index, block lengths and blocks
pub data Subtable : Type 0 where
  constant : ℕ → ℕ → Subtable
  pairs : Head → List SparseEntry → List ℕ → List ℕ → Subtable

-- the layout of a subtable
abbrev pub layout_of : Head → List SparseEntry → List ℕ → Layout
layout_of head sparse lengths = record {
  block_bits = head.block_bits;
  span_bits = head.span_bits;
  extra = head.extra;
  blocks = head.blocks;
  code = head.code;
  entries = head.entries;
  sparse = sparse;
  lengths = lengths;
}

-- the four lists of a DTZ part's map, with items of one byte or of two bytes
pub data Map : Type 0 where
  narrow : List (List ℕ) → Map
  wide : List (List ℕ) → Map

-- the contents of a file except its padding bytes
pub record Contents : Type 0 where
  pub material : Sides
  pub kind : Kind
  pub byte4 : ℕ
  pub parts : List Part
  pub subtables : List Subtable
  pub maps : List (Option Map)
  pub last : List ℕ

-- ---- numbers

-- decodes a little-endian number
abbrev pub number_of : List ℕ → ℕ
number_of [] = 0
number_of (byte ∷ bytes) = byte + 256 * number_of bytes

-- the `size` low bytes of a number, little-endian
abbrev pub bytes_of : ℕ → ℕ → List ℕ
bytes_of zero number = []
bytes_of (suc size) number = (number % 256) ∷ bytes_of size (number / 256)

-- `count` items of `size` bytes each
abbrev pub items : ℕ → ℕ → List ℕ → List (List ℕ)
items size zero bytes = []
items size (suc count) bytes = take size bytes ∷ items size count (drop size bytes)

-- whether bit `k` of a byte is set
abbrev pub has_bit : ℕ → ℕ → Bool
has_bit k byte = ((byte / 2 ^ k) % 2) == 1

-- the number of bytes from offset `place` up to a multiple of `unit`
abbrev pub gap : ℕ → ℕ → ℕ
gap unit place = (unit - place % unit) % unit

-- ---- determined by material and kind

-- four parts with pawns (for lead pawns on files a and h, b and g, c and f, d and e), else one
abbrev pub part_numbers : Sides → List ℕ
part_numbers material = if has_pawns material then 0 ∷ 1 ∷ 2 ∷ 3 ∷ [] else 0 ∷ []

-- a WDL table has two sides if the material is not symmetric; every other table has one
abbrev pub side_numbers : Sides → Kind → List ℕ
side_numbers material Wdl = if is_symmetric material then 0 ∷ [] else 0 ∷ 1 ∷ []
side_numbers material Dtz = 0 ∷ []

-- there is a second order byte if both colours have pawns
abbrev pub order_bytes : Sides → ℕ
order_bytes material = if has_other_pawns material then 2 else 1

-- the order nibbles of a side: the low nibbles for side 0, the high ones for side 1
abbrev pub order_of : ℕ → Part → Nibbles
order_of side part = nibbles_of side part.order part.men

-- a subtable's part and side, and its number of positions
pub record Slot : Type 0 where
  pub part : ℕ
  pub side : ℕ
  pub size : ℕ

-- part by part, side 0 before side 1
abbrev pub part_slots : Sides → List ℕ → ℕ → Part → List Slot
part_slots material sides number part =
    map (λ side. record { part = number; side = side; size = size_of material number (order_of side part) }) sides

abbrev pub slots_from : Sides → List ℕ → ℕ → List Part → List Slot
slots_from material sides number [] = []
slots_from material sides number (part ∷ parts) = part_slots material sides number part ++ slots_from material sides (number + 1) parts

abbrev pub slots : Sides → Kind → List Part → List Slot
slots material kind parts = slots_from material (side_numbers material kind) 0 parts
