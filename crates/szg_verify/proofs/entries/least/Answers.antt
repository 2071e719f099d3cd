use Rattle.std.proofs.Common.{arith}
use Rattle.szg_verify.proofs.Loops.{least_near}
use Rattle.szg_verify.proofs.entries.least.Goals as goal

pub loop-step-init : goal.loop-step-init
loop-step-init c =
    let lower = least_near (λ e. e.lower) c.args.class c.args.steps.now in
    let upper = least_near (λ e. e.upper) c.args.class c.args.steps.now in
    record { lower = omega (arith, lower); upper = omega (arith, upper); lower_near = omega arith; upper_near = omega arith }
