use Rattle.std.proofs.Common.{arith}
use Rattle.szg_code.proofs.Windows.{HoldsBits-none}
use Rattle.szg_code.proofs.reader.Bits.new.Goals as goal

pub invariant_of-result : goal.invariant_of-result
invariant_of-result c = record { fits = c.requires; near = omega arith; holds = HoldsBits-none c.args.bytes.now 0 }
