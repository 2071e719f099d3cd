use Rattle.szg_verify.specs.Entries.{tables_of}
use Rattle.szg_verify.proofs.Kept.{right_after, right_before}
use Rattle.szg_verify.proofs.entries.near_after.Goals as goal

pub find_near-requires : goal.find_near-requires
find_near-requires g c = record {
  right = right_after (tables_of (g.T.Tables.stored c.args.classes.now) (g.D.DtzTables.distances c.args.distances.now)) c.args.cells.now c.args.position.now c.after.result c.args.m
      c.men.ensures.position c.requires.legal c.requires.quiet c.after.ensures c.requires.right;
}

pub returns-clause-right : goal.returns-clause-right
returns-clause-right g c =
    right_before (tables_of (g.T.Tables.stored c.args.classes.now) (g.D.DtzTables.distances c.args.distances.now)) c.find_near.new.cells c.args.position.now c.after.result c.args.m
    c.men.ensures.position c.requires.legal c.requires.quiet c.after.ensures c.find_near.ensures.right
