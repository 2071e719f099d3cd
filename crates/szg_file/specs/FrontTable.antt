-- The view of a table that was opened by its front, and its invariant.
use Rattle.std.specs.Prelude.{ℕ, Bool, true, ◌≡◌, ◌+◌, ◌<◌, ◌≤◌, ◌^◌, List, length, map, drop, Some, IfSome}
use Rattle.std.specs.List.{AllByRecursion}
use Rattle.szg_block.specs.BlocksTrait.{bytes_at}
use Rattle.szg_block.specs.Kept.{kept_lengths}
use Rattle.szg_block.specs.Subtable.{layout_of}
use Rattle.szg_file.specs.Accepted.{IsPart, AreMaps, SideBySide}
use Rattle.szg_file.specs.Contents.{Contents, slots, part_numbers}
use Rattle.szg_file.specs.Format.{good, verdict}
use Rattle.szg_file.specs.Index.{Index, index_of, slots_in}
use Rattle.szg_file.specs.Kept.{kept_subs}
use Rattle.szg_file.specs.Placed.{whole_sub, Fits}
use Rattle.szg_file.specs.Unread.{FrontRead, BeginsWithFront, front_in, unread_file, unread_subs, IsUnread}
use Rattle.szg_file.specs.declared.reading.dropping.PlacedSub.{PlacedSub}

-- the index, byte 4, the length of the source, the offset of the table's last sixteen bytes, the length of the longest
-- block, and the subtables without their blocks
pub record FrontKept : Type 0 where
  pub index : Index
  pub byte4 : ℕ
  pub length : ℕ
  pub ending : ℕ
  pub room : ℕ
  pub subs : List PlacedSub

-- `kept` has the index, byte 4, length, last bytes' offset and subtables of the table that `content` begins with; its
-- blocks are not checked
pub record IsFrontOf (kept : FrontKept) (content : List ℕ) : Type 0 where
  pub table : Contents
  pub there : front_in kept.index.material kept.index.kind content ≡ Some table
  pub index_is : kept.index ≡ index_of table
  pub byte4_is : kept.byte4 ≡ table.byte4
  pub filled : List ℕ
  -- after the last bytes the table's file ends
  pub ends : verdict (unread_file kept.index.material kept.index.kind) 0 content ≡ good table filled (drop (kept.ending + 16) content)
  pub inside : kept.ending + 16 ≤ kept.length
  pub last_is : table.last ≡ bytes_at content kept.ending 16
  pub long : length content ≡ kept.length
  pub short : kept.length < 2 ^ 64
  -- with all block lengths, or with those that the values need
  pub all : Bool
  pub subs_are : map (whole_sub content) kept.subs ≡ kept_subs all (slots table.material table.kind table.parts) table.subtables
  pub parts : SideBySide (λ (_ : ℕ). IsPart table.material table.kind) (part_numbers table.material) table.parts
  pub unread : SideBySide IsUnread (slots table.material table.kind table.parts) table.subtables
  pub maps : AreMaps table.kind table.subtables table.maps
  pub fits : AllByRecursion (Fits (length content) kept.room) kept.subs

-- of each subtable only the lengths of the blocks that begin below its number of positions are kept
abbrev pub KeepsOnlyNeeded : FrontKept → Type 0
KeepsOnlyNeeded kept =
    SideBySide (λ slot placed. IfSome (layout_of placed.sub) (λ layout. kept_lengths slot.size layout.lengths ≡ layout.lengths)) (slots_in kept.index) kept.subs

-- the front of the table that the bytes begin with ends at offset `place`, and all of its block lengths are kept
pub record IsWholeFront (kept : FrontKept) (place : ℕ) (content : List ℕ) : Type 0 where
  pub front : IsFrontOf kept content
  pub whole : front.all ≡ true
  pub read : FrontRead
  pub begins : BeginsWithFront kept.index.material kept.index.kind read place content
  pub subs_are : map (whole_sub content) kept.subs ≡ unread_subs content place read.measured
