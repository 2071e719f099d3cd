use Rattle.std.proofs.Common.{arith}
use Rattle.szg_mapped.proofs.PassedLaws.{extended}
use Rattle.szg_mapped.proofs.passed.extend.Goals as goal

pub returns-clause-same : goal.returns-clause-same
returns-clause-same c = λ k. extended c.resize.result c.args.words.now.items c.resize.new.self.items c.args.size c.args.words.now.len k c.args.words.now.ok.0 (omega (arith, c.if-len-size.false, c.len.ensures)) c.resize.ensures.items
