use Rattle.std.proofs.Common.{◌∙◌, ap, Option, ℕ, List, Bool}
use Rattle.std.specs.Prelude.{option_and_then}
use Rattle.szg_probe.specs.Distances.{quiet_distance, chosen, choose_some, searched_distance, MayFailBySearch}
use Rattle.szg_probe.proofs.Moves.{chosen_next, carried, lack_at, lack_by}
use Rattle.szg_probe.proofs.distances.searched_distance.Goals as goal

pub returns-in-Err-clause-fault : goal.returns-in-Err-clause-fault
unfolding searched_distance
returns-in-Err-clause-fault g c =
    let p = c.args.position.now in
    let k = c.args.class in
    let lack = lack_at (λ s n fault. MayFailBySearch (g.T.Tables.explains s n fault) p) (λ s n m. quiet_distance s n p k m) (g.T.Tables.stored c.loop-m.tables) (g.T.Tables.stored c.args.tables.now) (g.T.Tables.numbers c.loop-m.tables) (g.T.Tables.numbers c.args.tables.now) p
    c.as_slice-m-items.result.now c.loop-m.m-index c.m-item.result c.in-Err.fault (ap g.T.Tables.stored c.loop-m.invariant.0) (ap g.T.Tables.numbers c.loop-m.invariant.0) (c.as_slice-m-items.ensures.value ∙ c.legal_moves-moves.ensures) c.loop-m-test.true c.m-item.is c.in-Err.ensures.fault in
    lack_by _ _ c.in-Err.fault (λ fault h. h) (λ none. ap (λ (o : Option (List (Option ℕ))). option_and_then (chosen k) o) none) lack

pub loop-m-preserved : goal.loop-m-preserved
loop-m-preserved g c =
    let before = c.loop-m.invariant in
    let p = c.args.position.now in
    let k = c.args.class in
    let m = c.m-item.result in
    let here = carried (λ s n. quiet_distance s n p k m) (g.T.Tables.stored c.loop-m.tables) (g.T.Tables.stored c.args.tables.now) (g.T.Tables.numbers c.loop-m.tables) (g.T.Tables.numbers c.args.tables.now) _ (ap g.T.Tables.stored before.0) (ap g.T.Tables.numbers before.0) c.in-Ok.ensures.distance in (
      c.quiet_distance.ensures.same ∙ before.0,
      chosen_next (quiet_distance (g.T.Tables.stored c.args.tables.now) (g.T.Tables.numbers c.args.tables.now) p k) k c.as_slice-m-items.result.now c.loop-m.m-index m c.loop-m.found _ c.in-Ok.quiet c.loop-m-test.true c.m-item.is before.1 here (c.choose_some-found.ensures.chosen ∙ ap (λ (b : Bool). choose_some b c.in-Ok.quiet c.loop-m.found) c.is_won.ensures),
      c.choose_some-found.ensures.few c.in-Ok.ensures.few before.2,
    )
