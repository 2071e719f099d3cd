use Rattle.std.proofs.Common.{rules, ◌≡◌, length, arith, refl, sym, ap, ◌∙◌, true, Some}
use Rattle.std.specs.Prelude.{◌||◌}
use Rattle.std.proofs.lemmas.Bool.{or_left, or_right}
use Rattle.szg_game.specs.Classes.{better}
use Rattle.szg_game.specs.Certified.{is_win}
use Rattle.szg_game.specs.declared.Class.{Class}
use Rattle.szg_chess.specs.Position.{Position}
use Rattle.szg_probe.specs.Probing.{StoredClasses, stored_class, has_only_en_passant}
use Rattle.szg_probe.proofs.Probed.{capture_fewer}
use Rattle.szg_probe.proofs.Search.{after_in, best_start, best_step, best_whole, item_in, fault_carried, probed_win, probed_best, probed_both, probed_carried, stored_as_probed, fault_below}
use Rattle.szg_probe.proofs.probes.+search.Goals as goal
use Rattle.szg_probe.proofs.probes.+search.Goals.{search_captures-then-is_win-via-then-is_win, search_captures-then-is_win-via-else-is_win+then-has_only_en_passant}

pub search-returns-else-may_capture-clause-probed : goal.search-returns-else-may_capture-clause-probed
search-returns-else-may_capture-clause-probed g t c =
    let found = sym c.may_capture.ensures.found ∙ c.if-may_capture.false in
    stored_as_probed c.stored_class.result (g.T.Tables.stored c.args.tables.now) c.args.position.now c.men.ensures.position found (c.may_capture.ensures.none (search rules)) c.stored_class.ensures.class

pub search_captures-search-requires : goal.search_captures-search-requires
search_captures-search-requires g t c κs within =
    let p = c.args.position.now in
    let i = item_in p c.as_slice-m-items.result.now c.loop-m.m-index c.m-item.result (c.as_slice-m-items.ensures.value ∙ c.captures_into.ensures.list) c.loop-m-test.true c.m-item.is in
    let fewer = (capture_fewer p c.men.ensures.position c.m-item.result i).1 in
    let same = ap (λ (q : Position). length q.placed_men) c.after.ensures in
    (omega (arith, fewer, same, c.decreases), within)

pub search_captures-loop-m-init : goal.search_captures-loop-m-init
search_captures-loop-m-init g t c = (refl, best_start (after_in (g.T.Tables.stored c.args.tables.now) c.args.position.now))

pub search_captures-loop-m-preserved : goal.search_captures-loop-m-preserved
search_captures-loop-m-preserved g t c =
    let tables = g.T.Tables.stored c.args.tables.now in
    let p = c.args.position.now in
    let before = c.loop-m.invariant in
    let known = probed_carried (g.T.Tables.stored c.loop-m.tables) tables c.after.result _ c.in-Ok.class (ap g.T.Tables.stored before.0) c.after.ensures c.in-Ok.ensures.probed in
    let no_loss = sym c.is_loss.ensures ∙ c.if-is_loss.false in
    let now = c.better-best.ensures ∙ ap (better c.loop-m.best) c.negate.ensures in
    (c.search.ensures.same ∙ before.0, best_step tables p c.as_slice-m-items.result.now c.loop-m.m-index c.m-item.result c.loop-m.best c.in-Ok.class c.better-best.result c.loop-m-test.true c.m-item.is before.1 known no_loss now)

pub search_captures-returns-in-Err-clause-fault : goal.search_captures-returns-in-Err-clause-fault
search_captures-returns-in-Err-clause-fault g t c =
    let p = c.args.position.now in
    let i = item_in p c.as_slice-m-items.result.now c.loop-m.m-index c.m-item.result (c.as_slice-m-items.ensures.value ∙ c.captures_into.ensures.list) c.loop-m-test.true c.m-item.is in
    let explains = g.T.Tables.explains in
    fault_below (explains (g.T.Tables.stored c.args.tables.now) (g.T.Tables.numbers c.args.tables.now) c.in-Err.fault) p c.m-item.result i
    (fault_carried explains (g.T.Tables.stored c.loop-m.tables) (g.T.Tables.stored c.args.tables.now) (g.T.Tables.numbers c.loop-m.tables) (g.T.Tables.numbers c.args.tables.now) c.after.result _ c.in-Err.fault (ap g.T.Tables.stored c.loop-m.invariant.0) (ap g.T.Tables.numbers c.loop-m.invariant.0) c.after.ensures c.in-Err.ensures.fault)

pub search_captures-returns-then-is_loss-clause-probed : goal.search_captures-returns-then-is_loss-clause-probed
search_captures-returns-then-is_loss-clause-probed g t c =
    let tables = g.T.Tables.stored c.args.tables.now in
    let p = c.args.position.now in
    let i = item_in p c.as_slice-m-items.result.now c.loop-m.m-index c.m-item.result (c.as_slice-m-items.ensures.value ∙ c.captures_into.ensures.list) c.loop-m-test.true c.m-item.is in
    let known = probed_carried (g.T.Tables.stored c.loop-m.tables) tables c.after.result _ c.in-Ok.class (ap g.T.Tables.stored c.loop-m.invariant.0) c.after.ensures c.in-Ok.ensures.probed in
    probed_win tables p c.m-item.result c.in-Ok.class c.men.ensures.position i known (sym c.is_loss.ensures ∙ c.if-is_loss.true)

pub search_captures-returns-then-is_win-clause-probed : goal.search_captures-returns-then-is_win-clause-probed
search_captures-returns-then-is_win-clause-probed g t c =
    let tables = g.T.Tables.stored c.args.tables.now in
    let p = c.args.position.now in
    let best = c.loop-m.best in
    let whole = best_whole tables p c.as_slice-m-items.result.now c.loop-m.m-index best (c.as_slice-m-items.ensures.value ∙ c.captures_into.ensures.list) (omega arith) c.loop-m.invariant.1 in
    let enough : (is_win best || has_only_en_passant p) ≡ true = elim c.then-is_win.branch [
      | search_captures-then-is_win-via-then-is_win w ↦ or_left (is_win best) (has_only_en_passant p) (sym c.is_win.ensures ∙ w.if-is_win.true)
      | search_captures-then-is_win-via-else-is_win+then-has_only_en_passant w ↦ or_right (is_win best) (has_only_en_passant p) (sym w.has_only_en_passant.ensures ∙ w.if-has_only_en_passant.true)
    ] in
    probed_best tables p best c.men.ensures.position whole enough

pub search_captures-returns-in-Ok-stored_class-clause-probed : goal.search_captures-returns-in-Ok-stored_class-clause-probed
search_captures-returns-in-Ok-stored_class-clause-probed g t c =
    let tables = g.T.Tables.stored c.args.tables.now in
    let p = c.args.position.now in
    let best = c.loop-m.best in
    let whole = best_whole tables p c.as_slice-m-items.result.now c.loop-m.m-index best (c.as_slice-m-items.ensures.value ∙ c.captures_into.ensures.list) (omega arith) c.loop-m.invariant.1 in
    let stored = ap (λ (s : StoredClasses). stored_class s p) (sym (ap g.T.Tables.stored c.loop-m.invariant.0)) ∙ c.in-Ok-stored_class.ensures.class in
    probed_both tables p best c.in-Ok-stored_class.stored c.men.ensures.position whole (sym c.is_win.ensures ∙ c.if-is_win.false) (sym c.has_only_en_passant.ensures ∙ c.if-has_only_en_passant.false) stored
    ∙ ap (λ (k : Class). Some k) (sym c.better.ensures)
