use Rattle.std.proofs.Common.{arith}
use Rattle.szg_values.proofs.Letters.{not_spelled}
use Rattle.szg_values.proofs.parsing.split_name.Goals as goal

pub returns-in_err-first-clause-spelled : goal.returns-in_err-first-clause-spelled
returns-in_err-first-clause-spelled c =
    let n = not_spelled c.args.text.now (c.in_err-first.ensures.byte (omega arith) (λ w o h. h)) in absurd cc
