use Rattle.szg_code.specs.CodeHeader.{code_of}
use Rattle.szg_code.proofs.Deciding.{kept-symbols}
use Rattle.szg_code.proofs.canonical.Code.with_symbols.Goals as goal

pub invariant_of-code : goal.invariant_of-code
invariant_of-code c =
    let kept = kept-symbols (code_of c.self.inside.header) c.args.n c.self.inside.bases c.self.inside.starts c.self.inside.zero_symbols (c.self.invariant.0, c.self.invariant.1, c.self.invariant.2, c.self.invariant.3) in
    (kept.0, kept.1, kept.2, kept.3, tt)

pub returns-clause-accepted : goal.returns-clause-accepted
returns-clause-accepted c =
    let kept = kept-symbols (code_of c.self.inside.header) c.args.n c.self.inside.bases c.self.inside.starts c.self.inside.zero_symbols (c.self.invariant.0, c.self.invariant.1, c.self.invariant.2, c.self.invariant.3) in
    rw c.with_two_words.ensures kept.0
