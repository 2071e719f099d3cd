use Rattle.std.proofs.Common.{sym, ◌∙◌}
use Rattle.szg_verify.specs.Entries.{tables_of}
use Rattle.szg_verify.proofs.Near.{plain_far}
use Rattle.szg_verify.proofs.entries.kept_far.Goals as goal

pub returns-in-Ok-Some-clause-right : goal.returns-in-Ok-Some-clause-right
returns-in-Ok-Some-clause-right g c =
    let tables = tables_of (g.T.Tables.stored c.args.classes.now) (g.D.DtzTables.distances c.args.distances.now) in
    let plain = plain_far tables c.args.position.now c.args.class (sym c.requires.far) c.requires.class in
    c.keep.ensures tables c.far_entry.ensures.right (sym (sym c.in-Ok-Some.field-0-is ∙ c.in-Ok-Some.ensures.entry ∙ plain))

pub returns-in-Ok-Some-clause-entry : goal.returns-in-Ok-Some-clause-entry
returns-in-Ok-Some-clause-entry g c =
    let tables = tables_of (g.T.Tables.stored c.args.classes.now) (g.D.DtzTables.distances c.args.distances.now) in
    sym c.in-Ok-Some.field-0-is ∙ c.in-Ok-Some.ensures.entry ∙ plain_far tables c.args.position.now c.args.class (sym c.requires.far) c.requires.class

pub returns-in-Ok-None-clause-entry : goal.returns-in-Ok-None-clause-entry
returns-in-Ok-None-clause-entry g c =
    let tables = tables_of (g.T.Tables.stored c.args.classes.now) (g.D.DtzTables.distances c.args.distances.now) in
    sym c.in-Ok-None.field-0-is ∙ c.in-Ok-None.ensures.entry ∙ plain_far tables c.args.position.now c.args.class (sym c.requires.far) c.requires.class
