use Rattle.std.proofs.Common.{◌≡◌, map, take}
use Rattle.szg_c_positions.specs.Men.{coded_man}
use Rattle.szg_c_positions.proofs.men.coded_men.Given as goal

abbrev pub invariant-loop-kind : goal.invariant-loop-kind
invariant-loop-kind l = l.coded.items ≡ map coded_man (take l.kind-index l.placed)
