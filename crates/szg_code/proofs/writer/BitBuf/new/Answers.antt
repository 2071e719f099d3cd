use Rattle.szg_code.proofs.Buffers.{HoldsBits-none}
use Rattle.szg_code.proofs.writer.BitBuf.new.Goals as goal

pub invariant_of-result : goal.invariant_of-result
invariant_of-result c = HoldsBits-none c.new.result.items c.new.ensures.items
