use Rattle.std.proofs.Common.{◌+◌, ◌-◌, arith}
use Rattle.szg_code.proofs.Windows.{HoldsBits-fewer}
use Rattle.szg_code.proofs.reader.window_of.Goals as goal

pub returns-then-window-count-clause-valid : goal.returns-then-window-count-clause-valid
returns-then-window-count-clause-valid c =
    let near = c.requires.valid.near in
    record {
      fits = c.requires.valid.fits;
      near = omega (arith, c.if-window-count.true, near);
      holds = HoldsBits-fewer c.args.bytes.now c.args.offset c.args.window.bits c.args.window.held (c.args.count + (c.args.window.held - c.args.count)) c.requires.valid.holds (omega (arith, c.if-window-count.true));
    }

pub returns-clause-valid : goal.returns-clause-valid
returns-clause-valid c =
    let valid = c.in_ok-window.ensures.valid in
    let near = valid.near in
    let held = c.in_ok-window.ensures.held in
    record {
      fits = valid.fits;
      near = omega (arith, near, held, c.requires.few);
      holds = HoldsBits-fewer c.args.bytes.now c.args.offset c.in_ok-window.window.bits c.in_ok-window.window.held _ valid.holds (omega (arith, held, c.requires.few));
    }
