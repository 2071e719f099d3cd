use Rattle.std.proofs.Common.{length, sym, ap, arith}
use Rattle.std.proofs.lemmas.Bool.{lt-ltb, le-ltb}
use Rattle.std.proofs.lemmas.List.{length-drop}
use Rattle.szg_code.specs.Bits.{bits}
use Rattle.szg_code.specs.Cursor.{EndlessCursor}
use Rattle.szg_code.proofs.ByteBits.{length-bits}
use Rattle.szg_code.proofs.reader.EndlessBits.refill.Goals as goal

pub returns-in_default-clause-left : goal.returns-in_default-clause-left
returns-in_default-clause-left c =
    let reader = c.self.inside in
    let left = ap (λ (k : EndlessCursor). length k.cursor.left) c.self.view_is in
    sym (le-ltb 0 (length c.args.self.now.cursor.left) (omega (arith, c.in_default.ensures.none, left, length-drop reader.offset (bits reader.bytes.now), length-bits reader.bytes.now)))

pub returns-clause-left : goal.returns-clause-left
returns-clause-left c =
    let reader = c.self.inside in
    let left = ap (λ (k : EndlessCursor). length k.cursor.left) c.self.view_is in
    sym (lt-ltb 0 (length c.args.self.now.cursor.left) (omega (arith, c.in-Some.ensures.some, left, length-drop reader.offset (bits reader.bytes.now), length-bits reader.bytes.now)))
