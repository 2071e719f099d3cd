use Rattle.std.proofs.Common.{◌≡◌, ◌*◌, drop}
use Rattle.szg_count.proofs.Radix.{ways_below}
use Rattle.szg_count.proofs.factor_at.Given as goal

abbrev pub invariant-loop-i : goal.invariant-loop-i
invariant-loop-i l = l.factor * ways_below l.position (drop l.i l.positions) (drop l.i l.ways) ≡ ways_below l.position l.positions l.ways
