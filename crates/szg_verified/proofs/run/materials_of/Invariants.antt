use Rattle.std.proofs.Common.{take}
use Rattle.szg_verified.specs.Runs.{AreNamed}
use Rattle.szg_verified.proofs.run.materials_of.Given as goal

abbrev pub invariant-names : goal.invariant-names
invariant-names l = AreNamed (take l.name-index l.names) l.materials.items
