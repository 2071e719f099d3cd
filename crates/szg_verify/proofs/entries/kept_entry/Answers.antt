use Rattle.std.proofs.Common.{sym, ◌∙◌}
use Rattle.szg_verify.specs.Entries.{tables_of}
use Rattle.szg_verify.proofs.Near.{plain_near}
use Rattle.szg_verify.proofs.entries.kept_entry.Goals as goal

pub returns-in-Ok-Some-clause-entry : goal.returns-in-Ok-Some-clause-entry
returns-in-Ok-Some-clause-entry g c =
    plain_near (tables_of (g.T.Tables.stored c.args.classes.now) (g.D.DtzTables.distances c.args.distances.now)) c.args.position.now c.in-Ok-Some.entry (sym c.in-Ok-Some.field-0-is ∙ c.in-Ok-Some.ensures.entry)
