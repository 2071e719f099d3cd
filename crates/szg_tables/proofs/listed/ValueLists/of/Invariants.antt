use Rattle.std.proofs.Common.{◌≡◌}
use Rattle.szg_tables.proofs.listed.ValueLists.of.Given as goal

abbrev pub invariant-loop-table : goal.invariant-loop-table
invariant-loop-table l = l.lists ≡ l.tables
