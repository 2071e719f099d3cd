-- What tables store whose files are in memory. A block is verified when a value of it is read.
use Rattle.std.specs.Prelude.{ℕ, ◌≡◌, List, slice_get, Option, Some, None, IfSome, option_and_then, if◌then◌else◌}
use Rattle.szg_values.specs.declared.Kind.{Kind}
use Rattle.szg_block.specs.Block.{block_at, block_values}
use Rattle.szg_block.specs.FirstFault.{spells_needed}
use Rattle.szg_block.specs.Steps.{block_location}
use Rattle.szg_file.specs.Contents.{Slot, Subtable, constant, pairs, layout_of}
use Rattle.szg_file.specs.Fetching as fetching
use Rattle.szg_mapped.specs.InPlace.{InPlace, IsTableIn}
use Rattle.szg_file.specs.Index.{Index}
use Rattle.szg_file.specs.Unread.{front_at}
use Rattle.szg_file.specs.Values.{constant_value}
use Rattle.szg_file.specs.declared.opened.fetching.FetchFault.TheVariants as fault
use Rattle.szg_values.specs.Material.{Sides}
use Rattle.szg_place.specs.declared.Spot.{Spot}
use Rattle.szg_probe.specs.Probing.{StoredClasses}
use Rattle.szg_probe.specs.Distances.{StoredNumbers}
use Rattle.szg_tables.specs.Opened.{Opened, opened_classes, opened_numbers}
use Rattle.szg_tables.specs.declared.MissingReason.{MissingReason}
use Rattle.szg_tables.specs.declared.MissingReason.TheVariants.{Block}

-- this is the table of a material and kind, opened from these bytes
abbrev pub IsOpenedFrom : Sides → Kind → List ℕ → InPlace → Type 0
IsOpenedFrom material kind bytes f = IsTableIn f × (f.content ≡ bytes) × (f.index.material ≡ material) × (f.index.kind ≡ kind)

-- Value i as its block spells it. None if the block's bits do not spell all values that the block needs. In a constant
-- subtable each value is the same.
abbrev pub decoded : Kind → Slot × Subtable → ℕ → Option ℕ
decoded kind (slot, constant flags byte) i = Some (constant_value kind byte)
decoded kind (slot, pairs head sparse lengths packed) i =
    let layout = layout_of head sparse lengths in
    let place = block_location layout i in
    let block = block_at head.block_bits packed place.list in
    if spells_needed layout slot.size place.list block then slice_get (block_values layout block) place.item else None

-- the subtable of a spot of a file
abbrev pub found_at : InPlace → Spot → Option (Slot × Subtable)
found_at f spot = front_at f.index.material f.index.kind f.content spot.part spot.side

-- the value at a spot of a file
abbrev pub value_at : InPlace → Spot → Option ℕ
value_at f spot = option_and_then (λ found. decoded f.index.kind found spot.index) (found_at f spot)

abbrev pub mapped : InPlace → Opened
mapped f = record { index = f.index; value_at = value_at f }

-- The reason is that the block of the spot does not decode in a file that begins with a table of this index: it names the
-- block's number and its offset.
abbrev pub NamesBadBlock : Index → List ℕ → Spot → MissingReason → Type 0
NamesBadBlock x content spot reason = (number : ℕ) × (offset : ℕ) × (reason ≡ Block number offset)
    × IfSome (front_at x.material x.kind content spot.part spot.side) (λ found. fetching.NamesBadBlock content found spot.index (fault.Block number offset))

-- what files of tables store
abbrev pub mapped_classes : List InPlace → StoredClasses
mapped_classes files = opened_classes mapped files

abbrev pub mapped_numbers : List InPlace → StoredNumbers
mapped_numbers files = opened_numbers mapped files
