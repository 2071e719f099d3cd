use Rattle.std.proofs.Common.{◌∙◌, ap, sym, arith, Bool, Some}
use Rattle.szg_probe.specs.Distances.{keeps_by_zeroing}
use Rattle.szg_probe.proofs.Moves.{by_zeroing, carried, none_next, none_whole, some_at, zeroing_at}
use Rattle.szg_probe.proofs.distances.has_zeroing.Goals as goal

pub keeps_by_zeroing-requires-clause-legal : goal.keeps_by_zeroing-requires-clause-legal
keeps_by_zeroing-requires-clause-legal g c =
    (zeroing_at c.args.position.now c.as_slice-m-items.result.now c.loop-m.m-index c.m-item.result (c.as_slice-m-items.ensures.value ∙ c.zeroing_moves-moves.ensures) c.loop-m-test.true c.m-item.is).0

pub keeps_by_zeroing-requires-clause-zeroing : goal.keeps_by_zeroing-requires-clause-zeroing
keeps_by_zeroing-requires-clause-zeroing g c =
    (zeroing_at c.args.position.now c.as_slice-m-items.result.now c.loop-m.m-index c.m-item.result (c.as_slice-m-items.ensures.value ∙ c.zeroing_moves-moves.ensures) c.loop-m-test.true c.m-item.is).1

pub returns-in-Ok-true-clause-zeroing : goal.returns-in-Ok-true-clause-zeroing
returns-in-Ok-true-clause-zeroing g c =
    let p = c.args.position.now in
    let k = c.args.class in
    let m = c.m-item.result in
    let here = carried (λ s n. keeps_by_zeroing s p k m) (g.T.Tables.stored c.loop-m.tables) (g.T.Tables.stored c.args.tables.now) (g.T.Tables.numbers c.loop-m.tables) (g.T.Tables.numbers c.args.tables.now) _ (ap g.T.Tables.stored c.loop-m.invariant.0) (ap g.T.Tables.numbers c.loop-m.invariant.0) (c.in-Ok-true.ensures.keeps ∙ ap (λ (b : Bool). Some b) c.in-Ok-true.field-0-test) in
    sym (by_zeroing (g.T.Tables.stored c.args.tables.now) p k)
    ∙ some_at (keeps_by_zeroing (g.T.Tables.stored c.args.tables.now) p k) c.as_slice-m-items.result.now _ c.loop-m.m-index m (c.as_slice-m-items.ensures.value ∙ c.zeroing_moves-moves.ensures) c.loop-m-test.true c.m-item.is here

pub loop-m-preserved : goal.loop-m-preserved
loop-m-preserved g c =
    let p = c.args.position.now in
    let k = c.args.class in
    let m = c.m-item.result in
    let before = c.loop-m.invariant in
    let here = carried (λ s n. keeps_by_zeroing s p k m) (g.T.Tables.stored c.loop-m.tables) (g.T.Tables.stored c.args.tables.now) (g.T.Tables.numbers c.loop-m.tables) (g.T.Tables.numbers c.args.tables.now) _ (ap g.T.Tables.stored before.0) (ap g.T.Tables.numbers before.0) (c.in-Ok-false.ensures.keeps ∙ ap (λ (b : Bool). Some b) c.in-Ok-false.field-0-test) in (
      c.keeps_by_zeroing.ensures.same ∙ before.0,
      none_next (keeps_by_zeroing (g.T.Tables.stored c.args.tables.now) p k) c.as_slice-m-items.result.now c.loop-m.m-index m c.loop-m-test.true c.m-item.is before.1 here,
    )

pub returns-clause-zeroing : goal.returns-clause-zeroing
returns-clause-zeroing g c =
    let p = c.args.position.now in let k = c.args.class in
    sym (by_zeroing (g.T.Tables.stored c.args.tables.now) p k)
    ∙ none_whole (keeps_by_zeroing (g.T.Tables.stored c.args.tables.now) p k) c.as_slice-m-items.result.now _ c.loop-m.m-index (c.as_slice-m-items.ensures.value ∙ c.zeroing_moves-moves.ensures) (omega arith) c.loop-m.invariant.1
