use Rattle.std.proofs.Common.{◌≡◌, ◌+◌, ◌^◌, ◌<◌, take}
use Rattle.std.specs.Option.{ForSome}
use Rattle.szg_probe.specs.Distances.{quiet_distance}
use Rattle.szg_probe.proofs.Moves.{ChosenSoFar}
use Rattle.szg_probe.proofs.distances.searched_distance.Given as goal

abbrev pub invariant-loop-m : goal.invariant-loop-m
invariant-loop-m g l = (l.tables ≡ l.fn.tables)
    × ChosenSoFar (quiet_distance (g.T.Tables.stored l.fn.tables) (g.T.Tables.numbers l.fn.tables) l.position l.class) l.class (take l.m-index l.m-items) l.found
    × ForSome l.found (λ d. d < 2 ^ 31 + 102)
