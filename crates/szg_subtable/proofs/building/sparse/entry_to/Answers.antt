use Rattle.std.proofs.Common.{ℕ, ◌+◌, ◌-◌, ◌<◌, get_or, ap, ◌∙◌, arith}
use Rattle.szg_subtable.proofs.Builders.SparseLaws.{held_by, next_start}
use Rattle.szg_subtable.proofs.building.sparse.entry_to.Goals as goal

pub ahead-preserved : goal.ahead-preserved
ahead-preserved c =
    let w = c.ahead.walk in
    let inv = c.ahead.invariant in
    let far : get_or c.args.lengths.now w.block 0 < c.args.index - w.start = omega (arith, c.ahead-test.true, c.from.ensures) in
    let next = next_start c.args.lengths.now w.block w.start c.args.index inv.there inv.at (omega (arith, c.if-index-size.false, c.requires.total)) far in
    record {
      there = next.0;
      at = ap (λ (k : ℕ). w.start + (k + 1)) c.from-in-ahead.ensures ∙ next.1;
      from = omega (arith, next.2, c.from-in-ahead.ensures);
    }

pub returns-clause-inside : goal.returns-clause-inside
returns-clause-inside c = λ less.
    let w = c.ahead.walk in
    let inv = c.ahead.invariant in
    (inv.there, held_by c.args.lengths.now w.block w.start c.args.index inv.there inv.at (omega (arith, c.ahead-test.false, c.from.ensures)))
