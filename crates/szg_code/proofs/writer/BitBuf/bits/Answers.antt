use Rattle.std.proofs.Common.{◌≡◌, ◌+◌, ◌/◌, length, sym, arith}
use Rattle.szg_code.proofs.ByteBits.{length-taken}
use Rattle.szg_code.proofs.writer.BitBuf.bits.Goals as goal

pub returns : goal.returns
returns c =
    let whole : length c.self.inside.bytes.items ≡ (c.self.inside.count + 7) / 8 = c.self.invariant.whole in
    rw (← c.self.view_is) (sym (length-taken c.self.inside.count c.self.inside.bytes.items (omega arith)))
