use Rattle.std.proofs.Common.{◌≡◌, drop}
use Rattle.std.specs.List.{list_any}
use Rattle.szg_verify.specs.Entries.{wins_at_once}
use Rattle.szg_verify.proofs.entries.some_wins.Given as goal

abbrev pub invariant-loop-m : goal.invariant-loop-m
invariant-loop-m g l = record {
  same : g.T.Tables.stored l.classes ≡ g.T.Tables.stored l.fn.classes;
  left : list_any (wins_at_once (g.T.Tables.stored l.fn.classes) l.class l.position) (drop l.m-index l.moves) ≡ list_any (wins_at_once (g.T.Tables.stored l.fn.classes) l.class l.position) l.moves;
}
