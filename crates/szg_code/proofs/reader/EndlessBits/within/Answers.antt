use Rattle.std.proofs.Common.{sym, ap, ◌∙◌, arith}
use Rattle.std.proofs.lemmas.List.{drop_all}
use Rattle.szg_code.specs.Bits.{bits}
use Rattle.szg_code.specs.Cursor.{EndlessCursor}
use Rattle.szg_code.proofs.ByteBits.{length-bits}
use Rattle.szg_code.proofs.reader.EndlessBits.within.Goals as goal

pub returns-then-self-clause-past : goal.returns-then-self-clause-past
returns-then-self-clause-past c =
    let e = c.self.view_is in
    let past = c.if-self.true in
    (omega (arith, past, ap (λ (k : EndlessCursor). k.past) e), sym (ap (λ (k : EndlessCursor). k.cursor.left) e) ∙ drop_all c.self.inside.offset (bits c.self.inside.bytes.now) (omega (arith, past, length-bits c.self.inside.bytes.now)))
