use Rattle.std.proofs.Common.{◌≡◌, ◌%◌, rules, ap, subst, sym, ◌∙◌, true, false, arith}
use Rattle.szg_verify.specs.Entries.{StoredTables, tables_of}
use Rattle.szg_verify.specs.Memory.{AreRight}
use Rattle.szg_values.specs.declared.Color.TheVariants.{Black}
use Rattle.szg_verify.specs.Walk.{colored_men, is_king_walked, movers_to, positions_by}
use Rattle.szg_verify.proofs.Counted.{all_counted, none_counted, passed_more, walked_more}
use Rattle.szg_verify.proofs.Kept.{carried, checked_more}
use Rattle.szg_verify.proofs.walk.verify_range.Goals as goal
use Rattle.szg_verify.proofs.walk.verify_range.Goals.{then-is_walked+in-Ok+else-is_some, else-is_walked}

pub loop-number-preserved : goal.loop-number-preserved
loop-number-preserved g c =
    let classes = g.T.Tables.stored c.args.classes.now in
    let distances = g.D.DtzTables.distances c.args.distances.now in
    let before = c.loop-number.invariant in
    let men = colored_men c.args.material.now in
    elim c.if-is_walked.branch [
      | then-is_walked+in-Ok+else-is_some w ↦ record {
        same_classes = ap g.T.Tables.stored w.classes-is ∙ (w.check_number.ensures.same_classes ∙ before.same_classes);
        same_distances = ap g.D.DtzTables.distances w.distances-is ∙ (w.check_number.ensures.same_distances ∙ before.same_distances);
        checked = checked_more (tables_of classes distances) c.args.material.now c.args.from c.loop-number.number before.checked (λ mover walked position. search (rules, w.in-Ok.ensures.checked));
        right = subst (AreRight c.as_slice-men.result.now (tables_of classes distances)) (sym w.cells-is)
            (carried (λ (t : StoredTables). AreRight c.as_slice-men.result.now t w.check_number.new.cells) (g.T.Tables.stored c.loop-number.classes) classes (g.D.DtzTables.distances c.loop-number.distances) distances
            before.same_classes before.same_distances w.check_number.ensures.right);
        within = omega arith;
        counted =
            let walked : is_king_walked men (c.loop-number.number % 64) ≡ true = search rules in
            let more = walked_more men c.args.from c.loop-number.number (omega arith) walked in
            let here : w.in-Ok.walked.positions ≡ positions_by men (movers_to Black) c.loop-number.number = search (rules, w.in-Ok.ensures.counted) in
            omega (arith, more, here, w.saturating_add-positions.ensures);
      }
      | else-is_walked w ↦ record {
        same_classes = ap g.T.Tables.stored w.classes-is ∙ before.same_classes;
        same_distances = ap g.D.DtzTables.distances w.distances-is ∙ before.same_distances;
        checked = checked_more (tables_of classes distances) c.args.material.now c.args.from c.loop-number.number before.checked (λ mover walked position. search rules);
        right = subst (AreRight c.as_slice-men.result.now (tables_of classes distances)) (sym w.cells-is) before.right;
        within = omega arith;
        counted =
            let passed : is_king_walked men (c.loop-number.number % 64) ≡ false = search rules in
            let more = passed_more men c.args.from c.loop-number.number (omega arith) passed in
            omega (arith, more);
      }
    ]

pub loop-number-init : goal.loop-number-init
loop-number-init g c =
    let none = none_counted (colored_men c.args.material.now) c.args.from in
    record {
      same_classes = search rules;
      same_distances = search rules;
      checked = search rules;
      right = search rules;
      within = omega arith;
      counted = omega (arith, none);
    }

pub returns-clause-counted : goal.returns-clause-counted
returns-clause-counted g c = λ passed.
    let all = all_counted (colored_men c.args.material.now) c.args.from c.args.to c.loop-number.number (omega arith) (omega arith) (omega arith) in
    omega (arith, all)
