-- Tables whose sparse indexes, block lengths and blocks are read where they stand in a file's bytes.
use Rattle.std.specs.Prelude.{ℕ, true, ◌≡◌, ◌+◌, ◌*◌, ◌/◌, ◌≤◌, List, [], ◌∷◌, IfSome, length, map, sum_by}
use Rattle.std.specs.Option.{option_map_or}
use Rattle.szg_block.specs.Block.{needed as needed_by}
use Rattle.szg_block.specs.BlocksTrait.{bytes_at}
use Rattle.szg_block.specs.Layout.{SparseEntry}
use Rattle.szg_block.specs.Steps.{block_location}
use Rattle.szg_block.specs.Subtable.{layout_of}
use Rattle.szg_file.specs.Accepted.{SideBySide}
use Rattle.szg_file.specs.Contents.{Subtable, constant, pairs, items, number_of}
use Rattle.szg_file.specs.File.{entry_of_bytes}
use Rattle.szg_file.specs.Fetching.{IsSpot}
use Rattle.szg_file.specs.FrontTable.{FrontKept, IsFrontOf}
use Rattle.szg_file.specs.Held.{subtable_of}
use Rattle.szg_file.specs.Index.{Index}
use Rattle.szg_mapped.specs.declared.in_place.NeededBlock.{NeededBlock}
use Rattle.szg_mapped.specs.declared.in_place.SubInPlace.{SubInPlace}
use Rattle.szg_file.specs.declared.reading.dropping.PlacedSub.{PlacedSub}

-- the entries of a sparse index, of six bytes each
abbrev pub entries_in : List ℕ → List SparseEntry
entries_in bytes = map entry_of_bytes (items 6 (length bytes / 6) bytes)

-- block lengths, of two bytes each
abbrev pub lengths_in : List ℕ → List ℕ
lengths_in bytes = map number_of (items 2 (length bytes / 2) bytes)

-- the index of a table, and the bytes that begin with its file
pub record InPlace : Type 0 where
  pub index : Index
  pub content : List ℕ

-- the bytes begin with the front of a table that has this index; its blocks may be any
abbrev pub IsTableIn : InPlace → Type 0
IsTableIn t = (kept : FrontKept) × IsFrontOf kept t.content × (kept.index ≡ t.index)

-- a subtable without its lists
abbrev pub header_of : Subtable → Subtable
header_of (constant flags byte) = constant flags byte
header_of (pairs head sparse lengths packed) = pairs head [] [] packed

-- a subtable that is in place is this one, and has its sparse index and block lengths
pub record Stands (placed : PlacedSub) (sub : SubInPlace) : Type 0 where
  pub first : sub.placed.first ≡ placed.first
  pub head : subtable_of sub.placed.sub ≡ header_of (subtable_of placed.sub)
  pub sparse : IfSome (layout_of placed.sub) (λ layout. layout.sparse ≡ entries_in sub.index.sparse.now)
  pub lengths : IfSome (layout_of placed.sub) (λ layout. layout.lengths ≡ lengths_in sub.index.lengths.now)

-- the subtables of the table that was opened by the front of these bytes are in place
pub record IsInPlace (index : Index) (content : List ℕ) (subs : List SubInPlace) : Type 0 where
  pub kept : FrontKept
  pub front : IsFrontOf kept content
  pub whole : front.all ≡ true
  pub index_is : kept.index ≡ index
  pub subs_are : SideBySide Stands kept.subs subs

-- the block of value i of a subtable with `size` values, and the number of values that it needs
pub record IsNeededBlock (placed : PlacedSub) (size i : ℕ) (found : NeededBlock) : Type 0 where
  pub spot : IsSpot placed i found.spot
  pub needed : IfSome (layout_of placed.sub) (λ layout. found.needed ≡ needed_by layout.lengths size (block_location layout i).list)

-- ---- where the lists are

-- the number of bytes of a subtable's sparse index, and of its block lengths
abbrev pub sparse_size : PlacedSub → ℕ
sparse_size placed = option_map_or (λ layout. 6 * length layout.sparse) (layout_of placed.sub) 0

abbrev pub lengths_size : PlacedSub → ℕ
lengths_size placed = option_map_or (λ layout. 2 * length layout.lengths) (layout_of placed.sub) 0

-- the sparse indexes of subtables, one after another from offset `at` on
abbrev pub AreSparseFrom : List ℕ → ℕ → List PlacedSub → Type 0
AreSparseFrom content at [] = Unit {0}
AreSparseFrom content at (placed ∷ subs) =
    IfSome (layout_of placed.sub) (λ layout. layout.sparse ≡ entries_in (bytes_at content at (sparse_size placed))) × AreSparseFrom content (at + sparse_size placed) subs

-- their block lengths, likewise
abbrev pub AreLengthsFrom : List ℕ → ℕ → List PlacedSub → Type 0
AreLengthsFrom content at [] = Unit {0}
AreLengthsFrom content at (placed ∷ subs) =
    IfSome (layout_of placed.sub) (λ layout. layout.lengths ≡ lengths_in (bytes_at content at (lengths_size placed))) × AreLengthsFrom content (at + lengths_size placed) subs

-- the sparse indexes and then the block lengths of all subtables end at offset `place`
pub record EndAt (content : List ℕ) (subs : List PlacedSub) (place : ℕ) : Type 0 where
  pub first : ℕ
  pub middle : ℕ
  pub sparse : AreSparseFrom content first subs
  pub sparse_end : first + sum_by sparse_size subs ≡ middle
  pub lengths : AreLengthsFrom content middle subs
  pub lengths_end : middle + sum_by lengths_size subs ≡ place
  pub inside : place ≤ length content
