use Rattle.std.proofs.Common.{take}
use Rattle.std.specs.Prelude.{option_map}
use Rattle.szg_file.specs.Accepted.{SideBySide, IsMapOf}
use Rattle.szg_file.specs.Held.{subtable_of, map_of}
use Rattle.szg_file.proofs.passing.are_maps_valid.Given as goal

-- the maps so far pass
abbrev pub invariant-maps : goal.invariant-maps
invariant-maps l = SideBySide (λ sub map. IsMapOf (subtable_of sub) (option_map map_of map)) (take l.n l.subs) (take l.n l.maps)
