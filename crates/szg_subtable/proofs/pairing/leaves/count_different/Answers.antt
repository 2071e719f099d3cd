use Rattle.std.proofs.Common.{sym, ap, ◌∙◌, arith, true, false, length}
use Rattle.szg_subtable.proofs.Pairs.LeafLaws.{default_at, values_below-none, values_below-few, counted_more}
use Rattle.szg_subtable.proofs.pairing.leaves.count_different.Goals as goal
use Rattle.szg_subtable.proofs.pairing.leaves.count_different.Goals.{then-marked, else-marked}

pub mark-requires-clause-none : goal.mark-requires-clause-none
mark-requires-clause-none c = λ value. default_at 4096 value false

pub loop-marked-init : goal.loop-marked-init
loop-marked-init c = sym (ap length (values_below-none c.args.values.now))

pub overflow_add-count : goal.overflow_add-count
overflow_add-count c = omega (arith, c.loop-marked.invariant, values_below-few c.loop-marked.marked-index c.args.values.now)

pub loop-marked-preserved : goal.loop-marked-preserved
loop-marked-preserved c =
    elim c.if-marked.branch [
      | then-marked w ↦ w.count-is ∙ counted_more c.args.values.now c.mark.new.marks c.loop-marked.marked-index c.loop-marked.count true c.mark.ensures c.loop-marked-test.true w.if-marked.true c.loop-marked.invariant
      | else-marked w ↦ w.count-is ∙ counted_more c.args.values.now c.mark.new.marks c.loop-marked.marked-index c.loop-marked.count false c.mark.ensures c.loop-marked-test.true w.if-marked.false c.loop-marked.invariant
    ]
