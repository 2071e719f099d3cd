use Rattle.std.proofs.Common.{◌≡◌, ℕ, List, min, get_or, ap, sym, ◌∙◌, subst, arith, inl, inr, Contains}
use Rattle.std.proofs.lemmas.List.{take_all}
use Rattle.std.proofs.lemmas.List.Sums.{sum_by_more}
use Rattle.szg_values.specs.Material.{Sides}
use Rattle.szg_verify.specs.Entries.{StoredTables, tables_of}
use Rattle.szg_verify.specs.Walk.{IsMaterialChecked, IsRangeChecked, colored_men, material_count, position_count}
use Rattle.szg_verify.proofs.Kept.{carried}
use Rattle.szg_verify.proofs.Whole.{one_more, verified_is_true, walk_is_whole}
use Rattle.szg_verify.proofs.verifying.verify.Goals as goal

pub loop-material-preserved : goal.loop-material-preserved
loop-material-preserved g c =
    let classes = g.T.Tables.stored c.args.classes.now in
    let distances = g.D.DtzTables.distances c.args.distances.now in
    let before = c.loop-material.invariant in
    let here_classes = g.T.Tables.stored c.loop-material.classes in
    let here_distances = g.D.DtzTables.distances c.loop-material.distances in
    record {
      same_classes = c.verify_range-walked.ensures.same_classes ∙ before.same_classes;
      same_distances = c.verify_range-walked.ensures.same_distances ∙ before.same_distances;
      checked = λ sides held. elim (one_more c.args.materials.now c.loop-material.material-index c.material-item.result sides c.loop-material-test.true c.material-item.is held) [
        | inl same ↦ subst (IsMaterialChecked (tables_of classes distances)) same
            (carried (λ (t : StoredTables). IsMaterialChecked t c.material-item.result) here_classes classes here_distances distances before.same_classes before.same_distances
            (walk_is_whole (tables_of here_classes here_distances) c.material-item.result
            (subst (λ (n : ℕ). IsRangeChecked (tables_of here_classes here_distances) c.material-item.result 0 n) c.number_count-count.ensures.count (c.in-Ok.ensures.checked (sym c.is_some.ensures ∙ c.if-is_some.false)))))
        | inr more ↦ before.checked sides more
      ];
      counted =
          let more = sum_by_more material_count c.args.materials.now c.loop-material.material-index c.material-item.result c.loop-material-test.true in
          let here : c.in-Ok.walked.positions ≡ min (position_count (colored_men c.material-item.result) 0 c.number_count-count.result) 18446744073709551615 =
          c.in-Ok.ensures.counted (sym c.is_some.ensures ∙ c.if-is_some.false) in
          let whole : material_count (get_or c.args.materials.now c.loop-material.material-index c.material-item.result) ≡ position_count (colored_men c.material-item.result) 0 c.number_count-count.result =
          ap material_count (sym c.material-item.is) ∙ ap (λ (n : ℕ). position_count (colored_men c.material-item.result) 0 n) (sym c.number_count-count.ensures.count) in
          omega (arith, more, here, whole, before.counted, c.saturating_add-positions.ensures);
    }

pub returns-clause-checked : goal.returns-clause-checked
returns-clause-checked g c = λ t sides held.
    c.loop-material.invariant.checked sides (subst (λ (xs : List Sides). Contains xs sides) (sym (take_all c.loop-material.material-index c.args.materials.now (omega arith))) held)

pub returns-clause-true_classes : goal.returns-clause-true_classes
returns-clause-true_classes g c = λ t closed symmetric p position covered.
    verified_is_true (tables_of (g.T.Tables.stored c.args.classes.now) (g.D.DtzTables.distances c.args.distances.now)) c.args.materials.now p closed symmetric
    (λ sides held. c.loop-material.invariant.checked sides (subst (λ (xs : List Sides). Contains xs sides) (sym (take_all c.loop-material.material-index c.args.materials.now (omega arith))) held)) position covered
