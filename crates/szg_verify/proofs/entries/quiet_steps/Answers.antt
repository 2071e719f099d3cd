use Rattle.std.proofs.Common.{subst, refl, sym, ap, ◌∙◌, arith, length, length-append, List, [], ◌∷◌, Some, false}
use Rattle.szg_game.specs.Game.{Move as Step}
use Rattle.szg_game.specs.declared.Entry.{Entry}
use Rattle.szg_chess.specs.declared.Move.{Move}
use Rattle.szg_chess.specs.Laws.{kinds_of}
use Rattle.szg_verify.specs.Memory.{AreRight}
use Rattle.szg_verify.proofs.Kept.{carried}
use Rattle.szg_verify.specs.Entries.{StoredTables, StepList, near_after, steps_to, tables_of}
use Rattle.szg_verify.proofs.Loops.{quiet, none_yet, quiet_pushed, quiet_passed, quiet_stopped, entry_carried_at}
use Rattle.szg_verify.proofs.entries.quiet_steps.Goals as goal
use Rattle.szg_verify.proofs.entries.quiet_steps.Goals.{then-not-is_zeroing+in-Ok-Some, else-not-is_zeroing}

pub loop-m-init : goal.loop-m-init
loop-m-init g c = record {
  same_classes = refl;
  same_distances = refl;
  right = c.requires.right;
  numbered = c.number_men-numbered.ensures;
  few = let e = ap length c.clear.ensures in omega (arith, e);
  so_far = none_yet (near_after (tables_of (g.T.Tables.stored c.args.classes.now) (g.D.DtzTables.distances c.args.distances.now)) c.args.position.now) c.args.position.now c.clear.new.self.items c.clear.ensures;
}

pub returns-in-Ok-None-clause-steps : goal.returns-in-Ok-None-clause-steps
returns-in-Ok-None-clause-steps g c =
    let p = c.args.position.now in
    let classes = g.T.Tables.stored c.args.classes.now in
    let distances = g.D.DtzTables.distances c.args.distances.now in
    let before = c.loop-m.invariant in
    let none = entry_carried_at near_after (g.T.Tables.stored c.loop-m.classes) classes (g.D.DtzTables.distances c.loop-m.distances) distances p c.m-item.result c.in-Ok-None.field-0 before.same_classes before.same_distances c.in-Ok-None.ensures.entry in
    sym (ap (λ (ms : List Move). steps_to (near_after (tables_of classes distances) p) p (quiet p ms)) (sym c.requires.moves)
    ∙ quiet_stopped (near_after (tables_of classes distances) p) p c.args.moves.now c.loop-m.m-index c.m-item.result c.loop-m-test.true c.m-item.is (sym c.is_zeroing.ensures ∙ c.if-not-is_zeroing.true) (none ∙ c.in-Ok-None.field-0-is))

pub loop-m-preserved : goal.loop-m-preserved
loop-m-preserved g c =
    let p = c.args.position.now in
    let classes = g.T.Tables.stored c.args.classes.now in
    let distances = g.D.DtzTables.distances c.args.distances.now in
    let before = c.loop-m.invariant in
    let entry = near_after (tables_of classes distances) p in
    elim c.if-not-is_zeroing.branch [
      | then-not-is_zeroing+in-Ok-Some w ↦ (
          let some = entry_carried_at near_after (g.T.Tables.stored c.loop-m.classes) classes (g.D.DtzTables.distances c.loop-m.distances) distances p c.m-item.result w.in-Ok-Some.field-0 before.same_classes before.same_distances w.in-Ok-Some.ensures.entry in
          let items = ap (λ (s : StepList). s.items) w.steps-is ∙ w.push.ensures in
          record {
            same_classes = ap g.T.Tables.stored w.classes-is ∙ (w.near_after.ensures.same_classes ∙ before.same_classes);
            same_distances = ap g.D.DtzTables.distances w.distances-is ∙ (w.near_after.ensures.same_distances ∙ before.same_distances);
            right = subst (AreRight (kinds_of p.placed_men) (tables_of classes distances)) (sym w.cells-is) (carried (λ (t : StoredTables). AreRight (kinds_of p.placed_men) t w.near_after.new.cells) (g.T.Tables.stored c.loop-m.classes) classes (g.D.DtzTables.distances c.loop-m.distances) distances before.same_classes before.same_distances w.near_after.ensures.right);
            numbered = c.set_square.ensures.numbered;
            few = let few = before.few in let size = ap length items ∙ length-append c.loop-m.steps.items ((w.in-Ok-Some.entry, false) ∷ []) in omega (arith, few, size);
            so_far = quiet_pushed entry p c.args.moves.now c.loop-m.m-index c.m-item.result c.loop-m-test.true c.m-item.is c.loop-m.steps.items c.if-not-is_zeroing.steps.items w.in-Ok-Some.entry
                (sym c.is_zeroing.ensures ∙ w.if-not-is_zeroing.true) before.so_far (some ∙ w.in-Ok-Some.field-0-is) items;
          })
      | else-not-is_zeroing w ↦ (
          let items = ap (λ (s : StepList). s.items) w.steps-is in
          record {
            same_classes = ap g.T.Tables.stored w.classes-is ∙ before.same_classes;
            same_distances = ap g.D.DtzTables.distances w.distances-is ∙ before.same_distances;
            right = subst (AreRight (kinds_of p.placed_men) (tables_of classes distances)) (sym w.cells-is) before.right;
            numbered = c.set_square.ensures.numbered;
            few = let few = before.few in let size = ap length items in omega (arith, few, size);
            so_far = quiet_passed entry p c.args.moves.now c.loop-m.m-index c.m-item.result c.loop-m-test.true c.m-item.is c.loop-m.steps.items
                (sym c.is_zeroing.ensures ∙ w.if-not-is_zeroing.false) before.so_far ∙ ap (λ (ns : List (Step Entry)). Some ns) (sym items);
          })
    ]
