use Rattle.std.proofs.Common.{◌≡◌, get_or, arith}
use Rattle.szg_code.specs.Canonical.{CanonicalCode}
use Rattle.szg_code.specs.CodeHeader.{code_of}
use Rattle.szg_code.specs.Least.{shifted_base}
use Rattle.szg_code.proofs.Prefixes.{next_length}
use Rattle.szg_code.proofs.checks.CodeHeader.reached_length_from.Goals as goal

pub loop-length-init : goal.loop-length-init
loop-length-init c =
    let code : CanonicalCode = code_of c.args.self.now in
    let at : get_or c.args.bases.now c.args.from 0 ≡ shifted_base code 64 c.args.from = c.requires.bases c.args.from c.requires.long c.requires.short in
    let n = next_length code c.args.window c.args.from c.requires.short (omega (arith, at, c.if-window-bases.false)) c.requires.before in
    record { long = omega (arith, c.requires.long); short = n.0; before = n.1 }

pub loop-length-preserved : goal.loop-length-preserved
loop-length-preserved c =
    let code : CanonicalCode = code_of c.args.self.now in
    let inv = c.loop-length.invariant in
    let at : get_or c.args.bases.now c.loop-length.length 0 ≡ shifted_base code 64 c.loop-length.length = c.requires.bases c.loop-length.length inv.long inv.short in
    let n = next_length code c.args.window c.loop-length.length inv.short (omega (arith, at, c.loop-length-test.true)) inv.before in
    record { long = omega (arith, inv.long); short = n.0; before = n.1 }

pub loop-length-smaller : goal.loop-length-smaller
loop-length-smaller c =
    let code : CanonicalCode = code_of c.args.self.now in
    let inv = c.loop-length.invariant in
    let at : get_or c.args.bases.now c.loop-length.length 0 ≡ shifted_base code 64 c.loop-length.length = c.requires.bases c.loop-length.length inv.long inv.short in
    let n = next_length code c.args.window c.loop-length.length inv.short (omega (arith, at, c.loop-length-test.true)) inv.before in
    omega (arith, n.0)
