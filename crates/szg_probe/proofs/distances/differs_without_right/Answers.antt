use Rattle.szg_probe.proofs.Search.{fault_without}
use Rattle.szg_probe.proofs.distances.differs_without_right.Goals as goal

pub returns-in-Err-clause-fault : goal.returns-in-Err-clause-fault
returns-in-Err-clause-fault g c =
    fault_without (g.T.Tables.explains (g.T.Tables.stored c.args.tables.now) (g.T.Tables.numbers c.args.tables.now) c.in-Err.fault) c.args.position.now c.without_en_passant.result c.men.ensures.position c.without_en_passant.ensures c.in-Err.ensures.fault
