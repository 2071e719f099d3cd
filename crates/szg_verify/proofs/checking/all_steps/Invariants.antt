use Rattle.std.proofs.Common.{◌≡◌, ◌≤◌, Some, take, length}
use Rattle.szg_chess.specs.Laws.{kinds_of}
use Rattle.szg_verify.specs.Memory.{AreRight, IsNumbered}
use Rattle.szg_verify.specs.Entries.{steps_to, tables_of}
use Rattle.szg_verify.specs.Verified.{entry_after}
use Rattle.szg_verify.proofs.checking.all_steps.Given as goal

abbrev pub invariant-loop-m : goal.invariant-loop-m
invariant-loop-m g l = record {
  same_classes : g.T.Tables.stored l.classes ≡ g.T.Tables.stored l.fn.classes;
  same_distances : g.D.DtzTables.distances l.distances ≡ g.D.DtzTables.distances l.fn.distances;
  numbered : IsNumbered l.position.placed_men l.numbered.digits l.numbered.pawn l.numbered.square l.numbered.place;
  few : length l.steps.items ≤ l.m-index;
  so_far : steps_to (entry_after (tables_of (g.T.Tables.stored l.fn.classes) (g.D.DtzTables.distances l.fn.distances)) l.position) l.position (take l.m-index l.m-items) ≡ Some l.steps.items;
  right : AreRight (kinds_of l.position.placed_men) (tables_of (g.T.Tables.stored l.fn.classes) (g.D.DtzTables.distances l.fn.distances)) l.cells;
}
