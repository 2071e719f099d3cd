use Rattle.std.proofs.Common.{arith}
use Rattle.szg_mapped.proofs.PassedLaws.{is_now_set, was_set}
use Rattle.szg_mapped.proofs.passed.set_bit.Goals as goal

pub returns-clause-set : goal.returns-clause-set
returns-clause-set c = let room = c.requires in is_now_set c.args.words.now c.args.n (omega arith)

pub returns-clause-others : goal.returns-clause-others
returns-clause-others c m h = let room = c.requires in was_set c.args.words.now c.args.n (omega arith) m h
