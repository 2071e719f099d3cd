-- The contents of a file that was checked without keeping its blocks.
use Rattle.std.specs.Prelude.{ℕ, List, map, option_map}
use Rattle.szg_values.specs.declared.Kind.{Kind}
use Rattle.szg_values.specs.Material.{Sides}
use Rattle.szg_file.specs.declared.reading.Outline.{Outline}
use Rattle.szg_file.specs.Contents as held
use Rattle.szg_file.specs.Held.{part_of, map_of}
use Rattle.szg_file.specs.Placed.{whole_sub}

-- the blocks are taken from `bytes`, the file
abbrev pub outlined : Sides → Kind → List ℕ → Outline → held.Contents
outlined material kind bytes o = record {
  material = material;
  kind = kind;
  byte4 = o.byte4;
  parts = map part_of o.parts.bytes.items;
  subtables = map (whole_sub bytes) o.subs.items;
  maps = map (option_map map_of) o.maps.items;
  last = o.last;
}
