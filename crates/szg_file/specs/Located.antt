-- A value of a table that was opened by its front, and the location of its block.
use Rattle.std.specs.Prelude.{ℕ, Bool, ◌≡◌, ◌+◌, ◌^◌, ◌<◌, ◌≤◌, List, Option, Some, None, MatchOption}
use Rattle.szg_block.specs.Kept.{IsLocatable}
use Rattle.szg_block.specs.Subtable.{layout_of, IsHeaded}
use Rattle.szg_file.specs.Contents.{Slot, Subtable}
use Rattle.szg_file.specs.Fetching.{IsSpot}
use Rattle.szg_file.specs.FrontTable.{FrontKept, IsFrontOf}
use Rattle.szg_file.specs.Kept.{kept_sub}
use Rattle.szg_file.specs.Placed.{blocks_size, whole_sub}
use Rattle.szg_file.specs.Unread.{front_at}
use Rattle.szg_file.specs.declared.opened.fetching.BlockSpot.{BlockSpot}
use Rattle.szg_file.specs.declared.reading.dropping.PlacedSub.{PlacedSub}

-- a table that was opened by its front, and the part, side and index of one of its values
pub record Location : Type 0 where
  pub kept : FrontKept
  pub part : ℕ
  pub side : ℕ
  pub index : ℕ

-- the subtable of the value, with its slot, in the table whose front `content` begins with
abbrev pub located_at : List ℕ → Location → Option (Slot × Subtable)
located_at content l = front_at l.kept.index.material l.kept.index.kind content l.part l.side

-- the subtable that was found has this slot, and `placed` is it with all block lengths, or with those that its values need
pub record IsKeptIn (all : Bool) (found : Option (Slot × Subtable)) (content : List ℕ) (slot : Slot) (placed : PlacedSub) : Type 0 where
  pub whole : Subtable
  pub is : found ≡ Some (slot, whole)
  pub kept_is : whole_sub content placed ≡ kept_sub all slot.size whole

-- the value is in this subtable, and in a block at this location unless the subtable is constant
pub record IsLocated (l : Location) (slot : Slot) (placed : PlacedSub) (spot : Option BlockSpot) : Type 0 where
  pub below : l.index < slot.size
  pub head : IsHeaded placed.sub
  pub index : IsLocatable placed.sub slot.size
  pub inside : placed.first + blocks_size placed.sub ≤ l.kept.length
  pub short : l.kept.length < 2 ^ 64
  pub front : (content : List ℕ) (h : IsFrontOf l.kept content) → IsKeptIn h.all (located_at content l) content slot placed
  pub spot_is : MatchOption spot (layout_of placed.sub ≡ None) (IsSpot placed l.index)
