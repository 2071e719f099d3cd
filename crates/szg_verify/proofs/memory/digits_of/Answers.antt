use Rattle.std.proofs.Common.{◌-◌, ◌<◌, arith, drop, length}
use Rattle.szg_verify.specs.Memory.{digits_of}
use Rattle.szg_verify.proofs.Kept.{digits_within}
use Rattle.szg_verify.proofs.memory.digits_of.Goals as goal

pub overflow_mul-digits : goal.overflow_mul-digits
overflow_mul-digits c =
    let men = c.args.men.now in
    let few : digits_of (drop (length men - c.loop-step.step) men) < 1073741824 = digits_within 5 (length men - c.loop-step.step) men c.requires.on_board (omega arith) in
    let e = c.loop-step.invariant in
    omega (arith, few, e)

pub overflow_add-digits : goal.overflow_add-digits
overflow_add-digits c =
    let men = c.args.men.now in
    let few : digits_of (drop (length men - c.loop-step.step) men) < 1073741824 = digits_within 5 (length men - c.loop-step.step) men c.requires.on_board (omega arith) in
    let e = c.loop-step.invariant in
    omega (arith, few, e)

pub returns-clause-few : goal.returns-clause-few
returns-clause-few c =
    let men = c.args.men.now in
    let few : digits_of (drop (length men - c.loop-step.step) men) < 68719476736 = digits_within 6 (length men - c.loop-step.step) men c.requires.on_board (omega arith) in
    let e = c.loop-step.invariant in
    omega (arith, few, e)
