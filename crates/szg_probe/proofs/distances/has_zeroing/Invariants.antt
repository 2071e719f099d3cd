use Rattle.std.proofs.Common.{◌≡◌, take}
use Rattle.szg_probe.specs.Distances.{keeps_by_zeroing}
use Rattle.szg_probe.proofs.Moves.{NoneSoFar}
use Rattle.szg_probe.proofs.distances.has_zeroing.Given as goal

abbrev pub invariant-loop-m : goal.invariant-loop-m
invariant-loop-m g l = (l.tables ≡ l.fn.tables)
    × NoneSoFar (keeps_by_zeroing (g.T.Tables.stored l.fn.tables) l.position l.class) (take l.m-index l.m-items)
