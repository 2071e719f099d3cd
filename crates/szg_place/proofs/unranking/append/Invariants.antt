use Rattle.std.proofs.Common.{◌≡◌, ◌++◌, take}
use Rattle.szg_place.proofs.unranking.append.Given as goal

abbrev pub invariant-loop-square : goal.invariant-loop-square
invariant-loop-square l = l.squares.items ≡ l.initial.squares.items ++ take l.square-index l.more
