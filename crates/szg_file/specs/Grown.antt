-- Readers of lists count by how much the lists that they return have grown, by `grow`.
use Rattle.std.specs.Prelude.{ℕ, ◌+◌, ◌*◌, ◌≤◌, List, length, option_map, Option}
use Rattle.std.specs.List.{sum_by}
use Rattle.szg_block.specs.declared.Sub.{Sub}
use Rattle.szg_file.specs.declared.reading.state.ReaderState.{ReaderState}
use Rattle.szg_file.specs.declared.reading.FrontRead.{FrontRead}
use Rattle.szg_file.specs.declared.table.PartBytes.{PartBytes}
use Rattle.szg_file.specs.declared.table.Map.{Map}
use Rattle.szg_file.specs.Contents.{Part}
use Rattle.szg_file.specs.File.{Begun}
use Rattle.szg_file.specs.Held.{part_of, subtable_of, map_of}
use Rattle.szg_file.specs.WholeRead.{sub_lengths, map_lengths}

-- The lists passed in have `before` items, and those returned `after`. They and the list of padding bytes have grown
-- by at most the increase of `growth`.
abbrev pub HasCounted : ReaderState → ReaderState → ℕ → ℕ → Type 0
HasCounted old new before after = old.growth + after + length new.fill.items ≤ new.growth + before + length old.fill.items

-- ---- the total length of the lists in the items of a list

abbrev pub part_length : Part → ℕ
part_length part = length part.order + length part.men

abbrev pub parts_lengths : List PartBytes → ℕ
parts_lengths parts = sum_by (λ part. part_length (part_of part)) parts

abbrev pub begun_lengths : List Begun → ℕ
begun_lengths list = sum_by (λ begun. sub_lengths begun.subtable) list

abbrev pub subs_lengths : List Sub → ℕ
subs_lengths subs = sum_by (λ sub. sub_lengths (subtable_of sub)) subs

abbrev pub maps_lengths : List (Option Map) → ℕ
maps_lengths maps = sum_by (λ found. map_lengths (option_map map_of found)) maps

-- ---- the total length of all lists

-- subtables count twice, since each has a slot as well
abbrev pub front_lengths : FrontRead → ℕ
front_lengths f =
    length f.parts.bytes.items + parts_lengths f.parts.bytes.items + 2 * length f.measured.items + begun_lengths f.measured.items
    + length f.maps.items + maps_lengths f.maps.items
