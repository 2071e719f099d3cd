use Rattle.std.proofs.Common.{ap}
use Rattle.szg_probe.specs.Distances.{distance_of, MayFailBySearch}
use Rattle.szg_probe.proofs.Moves.{lack_by, lack_over, probed_unknown}
use Rattle.szg_probe.proofs.distances.probe_dtz.Goals as goal

pub returns-in-Err-distance_of-clause-fault : goal.returns-in-Err-distance_of-clause-fault
returns-in-Err-distance_of-clause-fault g c =
    let classes = g.T.Tables.stored c.args.tables.now in
    let numbers = g.T.Tables.numbers c.args.tables.now in
    let p = c.args.position.now in
    let k = c.in-Ok.class in
    let lack = lack_over (λ s n fault. MayFailBySearch (g.T.Tables.explains s n fault) p) (λ s n. distance_of s n p k) (g.T.Tables.stored c.probe_wdl.new.tables) classes (g.T.Tables.numbers c.probe_wdl.new.tables) numbers c.in-Err-distance_of.fault (ap g.T.Tables.stored c.in-Ok.ensures.same) (ap g.T.Tables.numbers c.in-Ok.ensures.same) c.in-Err-distance_of.ensures.fault in
    lack_by _ _ c.in-Err-distance_of.fault (λ fault h. h) (λ none. probed_unknown classes numbers p k c.in-Ok.ensures.probed none) lack
