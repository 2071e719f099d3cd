use Rattle.std.proofs.Common.{Contains}
use Rattle.szg_values.specs.Material.{Sides}
use Rattle.szg_verified.proofs.changes.add_needed.Given as goal

abbrev pub invariant-numbers : goal.invariant-numbers
invariant-numbers l = (m : Sides) → Contains l.fn.materials.items m → Contains l.materials.items m
