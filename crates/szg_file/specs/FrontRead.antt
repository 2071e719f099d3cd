-- The contents of a front that was read.
use Rattle.std.specs.Prelude.{map, option_map}
use Rattle.szg_file.specs.Held.{part_of, map_of}
use Rattle.szg_file.specs.Unread as stated
use Rattle.szg_file.specs.declared.reading.FrontRead.{FrontRead}

abbrev pub front_read : FrontRead → stated.FrontRead
front_read f = record {
  byte4 = f.byte4;
  parts = map part_of f.parts.bytes.items;
  maps = map (option_map map_of) f.maps.items;
  measured = f.measured.items;
}
