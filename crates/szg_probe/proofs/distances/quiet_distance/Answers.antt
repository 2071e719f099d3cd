use Rattle.std.proofs.Common.{sym, ap, ◌∙◌, inl}
use Rattle.szg_probe.proofs.Search.{fault_by_search}
use Rattle.szg_probe.specs.Distances.{distance_by, MayFailByZeroing, MayFailBySearch}
use Rattle.szg_probe.proofs.Moves.{lack_by, lack_over, quiet_unknown}
use Rattle.szg_probe.proofs.distances.quiet_distance.Goals as goal

pub returns-in-Err-clause-fault : goal.returns-in-Err-clause-fault
returns-in-Err-clause-fault g c =
    fault_by_search (g.T.Tables.explains (g.T.Tables.stored c.args.tables.now) (g.T.Tables.numbers c.args.tables.now) c.in-Err.fault) c.args.position.now c.args.m c.after-next.result c.requires (sym c.is_zeroing.ensures ∙ c.if-is_zeroing.false) c.after-next.ensures (inl c.in-Err.ensures.fault)

pub returns-in-Err-distance_by-clause-fault : goal.returns-in-Err-distance_by-clause-fault
returns-in-Err-distance_by-clause-fault g c =
    let classes = g.T.Tables.stored c.args.tables.now in
    let numbers = g.T.Tables.numbers c.args.tables.now in
    let p = c.args.position.now in
    let k = c.args.class in
    let j = c.in-Ok.class in
    let m = c.args.m in
    let q = c.after-next.result in
    let quiet = sym c.is_zeroing.ensures ∙ c.if-is_zeroing.false in
    let lack = lack_over (λ s n fault. MayFailByZeroing (g.T.Tables.explains s n fault) q) (λ s n. distance_by s n j q) (g.T.Tables.stored c.search.new.tables) classes (g.T.Tables.numbers c.search.new.tables) numbers c.in-Err-distance_by.fault (ap g.T.Tables.stored c.in-Ok.ensures.same) (ap g.T.Tables.numbers c.in-Ok.ensures.same) c.in-Err-distance_by.ensures.fault in
    lack_by (λ fault. MayFailByZeroing (g.T.Tables.explains classes numbers fault) q) (λ fault. MayFailBySearch (g.T.Tables.explains classes numbers fault) p) c.in-Err-distance_by.fault
    (λ fault f. fault_by_search (g.T.Tables.explains classes numbers fault) p m q c.requires quiet c.after-next.ensures f)
    (λ none. quiet_unknown classes numbers p k j m q c.after-next.ensures quiet c.in-Ok.ensures.probed (sym c.stays.ensures ∙ c.if-not-stays.false) none) lack
