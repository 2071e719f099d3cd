use Rattle.std.proofs.Common.{◌≡◌, ◌*◌, ◌-◌, length, sym, ap, ◌∙◌, arith}
use Rattle.szg_code.specs.Cursor.{Cursor}
use Rattle.szg_code.proofs.ByteBits.{length-taken}
use Rattle.szg_code.proofs.reader.Bits.place.Goals as goal

pub returns : goal.returns
returns c =
    let reader = c.self-inside.inside.0.0 in
    let past : reader.offset - 8 * length reader.bytes.now ≡ 0 = ap (λ k. k.reader.past) c.self-inside.view_is ∙ c.self.invariant in
    sym (length-taken reader.offset reader.bytes.now (omega (arith, past))) ∙ ap (λ k. length k.reader.cursor.taken) c.self-inside.view_is ∙ ap (λ (k : Cursor). length k.taken) c.self.view_is
