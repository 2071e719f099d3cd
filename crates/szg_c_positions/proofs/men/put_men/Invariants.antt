use Rattle.std.proofs.Common.{◌≡◌, map, take, true}
use Rattle.std.specs.List.{list_all}
use Rattle.szg_values.proofs.Stood.{AreStood}
use Rattle.szg_c_positions.proofs.NotStanding.{AreTaken}
use Rattle.szg_c_positions.specs.Men.{is_coded_man, placed_man_of}
use Rattle.szg_c_positions.proofs.men.put_men.Given as goal

abbrev pub invariant-loop-man : goal.invariant-loop-man
invariant-loop-man l = record {
  reported : list_all is_coded_man (take l.man-index l.men) ≡ true;
  placed : l.placed_men.items ≡ map placed_man_of (take l.man-index l.men);
  taken : AreTaken (map placed_man_of l.men) l.man-index l.taken;
  stood : AreStood (map placed_man_of l.men) l.man-index l.taken l.key;
}
