use Rattle.std.proofs.Common.{arith}
use Rattle.szg_code.proofs.Windows.{HoldsBits-read}
use Rattle.szg_code.proofs.reader.fresh_window.Goals as goal

pub returns-clause-valid : goal.returns-clause-valid
returns-clause-valid c =
    let some = c.in_ok-read_u64_at.ensures.some in
    record {
      fits = c.requires;
      near = omega (arith, some);
      holds = HoldsBits-read c.args.bytes.now c.args.offset c.in_ok-read_u64_at.field-0 c.in_ok-read_u64_at.ensures.number;
    }
