use Rattle.std.proofs.lemmas.List.Elements.{All-replicate}
use Rattle.szg_tables.specs.Hints.{IsHint}
use Rattle.szg_tables.proofs.FirstTables.{no_hint}
use Rattle.szg_tables.proofs.opened.OpenedSet.of.Goals as goal

pub invariant_of-result : goal.invariant_of-result
invariant_of-result g c = All-replicate (IsHint g.T.OpenTable.opened c.args.tables.items) 1024 0 (no_hint g.T.OpenTable.opened c.args.tables.items)
