use Rattle.std.proofs.Common.{All}
use Rattle.szg_tables.specs.Listed.{IsListOf}
use Rattle.szg_tables.proofs.listed.list_table.Given as goal

abbrev pub invariant-loop-number : goal.invariant-loop-number
invariant-loop-number l = All (IsListOf l.table.contents) l.lists.items
