use Rattle.std.proofs.Common.{◌≡◌, map, take}
use Rattle.std.specs.Prelude.{IsTrue}
use Rattle.std.specs.List.{list_all}
use Rattle.szg_c_positions.specs.Men.{is_coded_man, placed_man_of}
use Rattle.szg_c_positions.proofs.men.placed_men.Given as goal

abbrev pub invariant-loop-man : goal.invariant-loop-man
invariant-loop-man l = IsTrue (list_all is_coded_man (take l.man-index l.men)) × (l.placed_men.items ≡ map placed_man_of (take l.man-index l.men))
