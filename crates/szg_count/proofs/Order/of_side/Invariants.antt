use Rattle.std.proofs.Common.{◌≡◌, take, map}
use Rattle.szg_count.specs.Groups.{nibble}
use Rattle.szg_count.proofs.Order.of_side.Given as goal

abbrev pub invariant-loop-man : goal.invariant-loop-man
invariant-loop-man l = l.used.items ≡ map (nibble l.side) (take l.man-index l.men)
