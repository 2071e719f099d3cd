use Rattle.std.proofs.Common.{◌≡◌, ◌+◌, arith, rules}
use Rattle.std.specs.List.{sum_by}
use Rattle.szg_block.proofs.Parts.{total-fits}
use Rattle.szg_file.proofs.begun.KeptLengths.add.Goals as goal

pub overflow_add-self : goal.overflow_add-self
overflow_add-self c =
    let e : c.sum-values.result ≡ sum_by (λ n. n + 1) c.args.numbers.now = search rules in
    omega (arith, e, total-fits c.args.numbers.now c.type_inv.numbers, c.requires.most, c.requires.few, c.args.self.now.values_few)

pub add_all-requires-clause-small : goal.add_all-requires-clause-small
add_all-requires-clause-small c =
    let e : c.sum-values.result ≡ sum_by (λ n. n + 1) c.args.numbers.now = search rules in
    omega (arith, e, total-fits c.args.numbers.now c.type_inv.numbers)
