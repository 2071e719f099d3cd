use Rattle.std.proofs.Common.{◌≡◌, ◌+◌, arith, rules}
use Rattle.std.specs.List.{slice_index}
use Rattle.szg_block.proofs.Kept.{start-end}
use Rattle.szg_block.proofs.Values.{start-more}
use Rattle.szg_block.proofs.lengths.values_in.Goals as goal

pub returns-then-n-lengths-clause-next : goal.returns-then-n-lengths-clause-next
returns-then-n-lengths-clause-next c =
    let is : c.from.result ≡ slice_index c.args.lengths.now c.args.n = search rules in
    omega (arith, is, start-more c.args.lengths.now c.args.n c.if-n-lengths.true)

pub returns-else-n-lengths-clause-next : goal.returns-else-n-lengths-clause-next
returns-else-n-lengths-clause-next c =
    omega (arith, start-end c.args.lengths.now c.args.n c.if-n-lengths.false, start-end c.args.lengths.now (c.args.n + 1) (omega (arith, c.if-n-lengths.false)))
