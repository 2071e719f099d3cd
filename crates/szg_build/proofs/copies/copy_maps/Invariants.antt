use Rattle.std.proofs.Common.{◌≡◌, map, take, option_map}
use Rattle.szg_file.specs.Held.{map_of}
use Rattle.szg_build.proofs.copies.copy_maps.Given as goal

-- the items so far
abbrev pub invariant-maps : goal.invariant-maps
invariant-maps l = map (option_map map_of) l.copies.items ≡ map (option_map map_of) (take l.item-index l.maps)
