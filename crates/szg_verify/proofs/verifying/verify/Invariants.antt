use Rattle.std.proofs.Common.{◌≡◌, Contains, min, take}
use Rattle.std.specs.Prelude.{sum_by}
use Rattle.szg_values.specs.Material.{Sides}
use Rattle.szg_verify.specs.Entries.{tables_of}
use Rattle.szg_verify.specs.Walk.{IsMaterialChecked, material_count}
use Rattle.szg_verify.proofs.verifying.verify.Given as goal

abbrev pub invariant-loop-material : goal.invariant-loop-material
invariant-loop-material g l = record {
  same_classes : g.T.Tables.stored l.classes ≡ g.T.Tables.stored l.fn.classes;
  same_distances : g.D.DtzTables.distances l.distances ≡ g.D.DtzTables.distances l.fn.distances;
  checked : (sides : Sides) → Contains (take l.material-index l.materials) sides → IsMaterialChecked (tables_of (g.T.Tables.stored l.fn.classes) (g.D.DtzTables.distances l.fn.distances)) sides;
  counted : l.positions ≡ min (sum_by material_count (take l.material-index l.materials)) 18446744073709551615;
}
