use Rattle.szg_probe.proofs.Search.{fault_by_zeroing}
use Rattle.szg_probe.proofs.distances.keeps_by_zeroing.Goals as goal

pub returns-in-Err-clause-fault : goal.returns-in-Err-clause-fault
returns-in-Err-clause-fault g c =
    fault_by_zeroing (g.T.Tables.explains (g.T.Tables.stored c.args.tables.now) (g.T.Tables.numbers c.args.tables.now) c.in-Err.fault) c.args.position.now c.args.m c.after.result c.requires.legal c.requires.zeroing c.after.ensures c.in-Err.ensures.fault
