use Rattle.std.proofs.Common.{map, take}
use Rattle.std.specs.Prelude.{option_map}
use Rattle.std.specs.List.{AllByRecursion}
use Rattle.szg_file.specs.Held.{map_of}
use Rattle.szg_build.specs.Tabling.{IsOfItems}
use Rattle.szg_build.proofs.table.maps_fit.Given as goal

-- the maps so far
abbrev pub invariant-maps : goal.invariant-maps
invariant-maps l = AllByRecursion IsOfItems (map (option_map map_of) (take l.item-index l.maps))
