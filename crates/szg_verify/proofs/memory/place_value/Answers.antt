use Rattle.std.proofs.Common.{◌-◌, ◌<◌, arith, drop, length}
use Rattle.szg_verify.specs.Memory.{place_value}
use Rattle.szg_verify.proofs.Kept.{place_within}
use Rattle.szg_verify.proofs.memory.place_value.Goals as goal

pub overflow_mul-value : goal.overflow_mul-value
overflow_mul-value c =
    let men = c.args.men.now in
    let few : place_value c.args.square (drop (length men - c.loop-step.step) men) < 1073741824 = place_within 5 (length men - c.loop-step.step) c.args.square men (omega arith) in
    let e = c.loop-step.invariant in
    omega (arith, few, e)

pub overflow_add-value : goal.overflow_add-value
overflow_add-value c =
    let men = c.args.men.now in
    let few : place_value c.args.square (drop (length men - c.loop-step.step) men) < 1073741824 = place_within 5 (length men - c.loop-step.step) c.args.square men (omega arith) in
    let e = c.loop-step.invariant in
    let unit = c.unit_on-unit.ensures.few in
    omega (arith, few, e, unit)
