use Rattle.std.proofs.Common.{◌≡◌, length, drop}
use Rattle.szg_values.specs.Material.{is_not_later}
use Rattle.szg_values.proofs.materials.is_not_later.Given as goal

abbrev pub invariant-loop-a : goal.invariant-loop-a
invariant-loop-a l = is_not_later l.first l.second ≡ is_not_later (drop (length l.yielded) l.first) (drop (length l.yielded) l.second)
