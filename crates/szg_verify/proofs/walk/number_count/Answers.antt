use Rattle.std.proofs.Common.{arith}
use Rattle.szg_verify.proofs.Whole.{few_numbers}
use Rattle.szg_verify.proofs.walk.number_count.Goals as goal

pub pow-requires : goal.pow-requires
pow-requires c = let few = few_numbers c.len.result (omega arith) in omega (arith, few)

pub returns-clause-within : goal.returns-clause-within
returns-clause-within c = let few = few_numbers c.len.result (omega arith) in omega (arith, few)
