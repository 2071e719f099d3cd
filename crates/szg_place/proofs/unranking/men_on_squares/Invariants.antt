use Rattle.std.proofs.Common.{◌≡◌, take}
use Rattle.szg_place.specs.Spots.{men_on_squares}
use Rattle.szg_place.proofs.unranking.men_on_squares.Given as goal

abbrev pub invariant-loop-i : goal.invariant-loop-i
invariant-loop-i l = l.men.items ≡ take l.i (men_on_squares l.codes l.squares)
