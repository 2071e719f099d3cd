use Rattle.std.proofs.Common.{◌≡◌, ◌≤◌, max, min}
use Rattle.szg_verify.specs.Memory.{AreRight}
use Rattle.szg_verify.specs.Entries.{tables_of}
use Rattle.szg_verify.specs.Walk.{IsRangeChecked, colored_men, position_count}
use Rattle.szg_verify.proofs.walk.verify_range.Given as goal

abbrev pub invariant-loop-number : goal.invariant-loop-number
invariant-loop-number g l = record {
  same_classes : g.T.Tables.stored l.classes ≡ g.T.Tables.stored l.fn.classes;
  same_distances : g.D.DtzTables.distances l.distances ≡ g.D.DtzTables.distances l.fn.distances;
  checked : IsRangeChecked (tables_of (g.T.Tables.stored l.fn.classes) (g.D.DtzTables.distances l.fn.distances)) l.material l.from l.number;
  right : AreRight l.men (tables_of (g.T.Tables.stored l.fn.classes) (g.D.DtzTables.distances l.fn.distances)) l.cells;
  within : l.number ≤ max l.from l.to;
  counted : l.positions ≡ min (position_count (colored_men l.material) l.from l.number) 18446744073709551615;
}
