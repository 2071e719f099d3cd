use Rattle.std.proofs.Common.{sym, ◌∙◌}
use Rattle.szg_verify.specs.Entries.{tables_of}
use Rattle.szg_verify.proofs.Kept.{right_after, right_before}
use Rattle.szg_verify.proofs.checking.entry_after.Goals as goal

pub find_entry-requires : goal.find_entry-requires
find_entry-requires g c = record {
  right = right_after (tables_of (g.T.Tables.stored c.args.classes.now) (g.D.DtzTables.distances c.args.distances.now)) c.args.cells.now c.args.position.now c.after.result c.args.m
      c.men.ensures.position c.requires.legal (sym c.requires.zeroing ∙ c.if-not-zeroing.true) c.after.ensures c.requires.right;
}

pub returns-then-not-zeroing-clause-right : goal.returns-then-not-zeroing-clause-right
returns-then-not-zeroing-clause-right g c =
    right_before (tables_of (g.T.Tables.stored c.args.classes.now) (g.D.DtzTables.distances c.args.distances.now)) c.find_entry.new.cells c.args.position.now c.after.result c.args.m
    c.men.ensures.position c.requires.legal (sym c.requires.zeroing ∙ c.if-not-zeroing.true) c.after.ensures c.find_entry.ensures.right
