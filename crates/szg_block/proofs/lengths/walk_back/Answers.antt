use Rattle.std.proofs.Common.{◌≡◌, ◌+◌, ◌-◌, ◌≤◌, length, ap, sym, ◌∙◌, arith}
use Rattle.szg_block.specs.Block.{start}
use Rattle.szg_block.proofs.Values.{start-zero}
use Rattle.szg_block.proofs.Walking.{none_past, start-after}
use Rattle.szg_block.proofs.lengths.walk_back.Goals as goal

pub returns-then-after-eq0-clause-none : goal.returns-then-after-eq0-clause-none
returns-then-after-eq0-clause-none g c =
    let lengths = g.I.BlockIndex.lengths c.args.index.now in
    let zero : start lengths c.walk.after ≡ 0 = ap (λ n. start lengths n) c.if-after-eq0.true ∙ start-zero lengths in
    λ _. omega (arith, zero, c.walk.invariant.location, c.walk.invariant.some)

pub returns-in_err-length-clause-none : goal.returns-in_err-length-clause-none
returns-in_err-length-clause-none g c =
    let lengths = g.I.BlockIndex.lengths c.args.index.now in
    let past : length lengths ≤ c.walk.after - 1 = none_past lengths (c.walk.after - 1) (sym c.in_err-length.ensures.length) in
    rw c.from_residual.ensures (λ within. absurd (omega (arith, past, within, c.if-after-eq0.false, c.walk.invariant.after)))

pub returns-then-left-values-clause-location : goal.returns-then-left-values-clause-location
returns-then-left-values-clause-location g c =
    let lengths = g.I.BlockIndex.lengths c.args.index.now in
    let after : start lengths (c.walk.after - 1 + 1) ≡ start lengths (c.walk.after - 1) + (c.in_ok-length.length + 1) = start-after lengths (c.walk.after - 1) c.in_ok-length.length (sym c.in_ok-length.ensures.length) in
    let is : start lengths (c.walk.after - 1 + 1) ≡ start lengths c.walk.after = ap (λ n. start lengths n) (omega (arith, c.if-after-eq0.false)) in
    omega (arith, after, is, c.walk.invariant.location, c.if-left-values.true, c.from-values.ensures)

pub walk-preserved : goal.walk-preserved
walk-preserved g c =
    let lengths = g.I.BlockIndex.lengths c.args.index.now in
    let after : start lengths (c.walk.after - 1 + 1) ≡ start lengths (c.walk.after - 1) + (c.in_ok-length.length + 1) = start-after lengths (c.walk.after - 1) c.in_ok-length.length (sym c.in_ok-length.ensures.length) in
    let is : start lengths (c.walk.after - 1 + 1) ≡ start lengths c.walk.after = ap (λ n. start lengths n) (omega (arith, c.if-after-eq0.false)) in
    record {
      after = omega (arith, c.if-after-eq0.false, c.walk.invariant.after);
      some = omega (arith, c.if-left-values.false);
      location = omega (arith, after, is, c.walk.invariant.location, c.if-left-values.false, c.from-values.ensures);
    }
