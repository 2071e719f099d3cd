use Rattle.std.proofs.Common.{refl, sym, ap, ◌∙◌, arith, length, length-append, [], ◌∷◌, ◌++◌, Bool}
use Rattle.szg_chess.specs.Laws.{kinds_of}
use Rattle.szg_chess.specs.Moves.{is_zeroing}
use Rattle.szg_verify.specs.Memory.{AreRight}
use Rattle.szg_verify.proofs.Kept.{carried}
use Rattle.szg_verify.specs.Entries.{StoredTables, steps_to, tables_of}
use Rattle.szg_verify.specs.Verified.{entry_after}
use Rattle.szg_verify.proofs.Loops.{none_yet, all_pushed, all_stopped, entry_carried_at}
use Rattle.szg_verify.proofs.checking.all_steps.Goals as goal

pub loop-m-init : goal.loop-m-init
loop-m-init g c = record {
  same_classes = refl;
  same_distances = refl;
  right = c.requires.right;
  numbered = c.number_men-numbered.ensures;
  few = let e = ap length c.clear.ensures in omega (arith, e);
  so_far = none_yet (entry_after (tables_of (g.T.Tables.stored c.args.classes.now) (g.D.DtzTables.distances c.args.distances.now)) c.args.position.now) c.args.position.now c.clear.new.self.items c.clear.ensures;
}

pub returns-in-Ok-None-clause-steps : goal.returns-in-Ok-None-clause-steps
returns-in-Ok-None-clause-steps g c =
    let p = c.args.position.now in
    let classes = g.T.Tables.stored c.args.classes.now in
    let distances = g.D.DtzTables.distances c.args.distances.now in
    let before = c.loop-m.invariant in
    let none = entry_carried_at entry_after (g.T.Tables.stored c.loop-m.classes) classes (g.D.DtzTables.distances c.loop-m.distances) distances p c.m-item.result c.in-Ok-None.field-0 before.same_classes before.same_distances c.in-Ok-None.ensures.entry in
    sym (ap (steps_to (entry_after (tables_of classes distances) p) p) (sym (c.as_slice-m-items.ensures.value ∙ c.legal_moves-moves.ensures))
    ∙ all_stopped (entry_after (tables_of classes distances) p) p c.as_slice-m-items.result.now c.loop-m.m-index c.m-item.result c.loop-m-test.true c.m-item.is (none ∙ c.in-Ok-None.field-0-is))

pub loop-m-preserved : goal.loop-m-preserved
loop-m-preserved g c =
    let p = c.args.position.now in
    let classes = g.T.Tables.stored c.args.classes.now in
    let distances = g.D.DtzTables.distances c.args.distances.now in
    let before = c.loop-m.invariant in
    let some = entry_carried_at entry_after (g.T.Tables.stored c.loop-m.classes) classes (g.D.DtzTables.distances c.loop-m.distances) distances p c.m-item.result c.in-Ok-Some.field-0 before.same_classes before.same_distances c.in-Ok-Some.ensures.entry in
    let items = c.push.ensures ∙ ap (λ (z : Bool). c.loop-m.steps.items ++ (c.in-Ok-Some.entry, z) ∷ []) c.is_zeroing-zeroing.ensures in
    record {
      same_classes = c.entry_after.ensures.same_classes ∙ before.same_classes;
      same_distances = c.entry_after.ensures.same_distances ∙ before.same_distances;
      right = carried (λ (t : StoredTables). AreRight (kinds_of p.placed_men) t c.entry_after.new.cells) (g.T.Tables.stored c.loop-m.classes) classes (g.D.DtzTables.distances c.loop-m.distances) distances before.same_classes before.same_distances c.entry_after.ensures.right;
      numbered = c.set_square.ensures.numbered;
      few = let few = before.few in let size = ap length items ∙ length-append c.loop-m.steps.items ((c.in-Ok-Some.entry, is_zeroing p c.m-item.result) ∷ []) in omega (arith, few, size);
      so_far = all_pushed (entry_after (tables_of classes distances) p) p c.as_slice-m-items.result.now c.loop-m.m-index c.m-item.result c.loop-m-test.true c.m-item.is c.loop-m.steps.items c.push.new.self.items c.in-Ok-Some.entry
          before.so_far (some ∙ c.in-Ok-Some.field-0-is) items;
    }
