use Rattle.std.proofs.Common.{◌+◌, ◌*◌, ◌<◌, ◌≤◌, ◌^◌, ◌%◌, ℕ, get_or, arith}
use Rattle.std.proofs.Math.Nat.{mod-le}
use Rattle.std.proofs.Math.Pow.{pow_mono}
use Rattle.std.proofs.lemmas.List.Sums.{sum_by_more}
use Rattle.szg_count.proofs.Differ.{IsIn-at}
use Rattle.szg_count.proofs.ManCodes.{key_stated}
use Rattle.szg_count.proofs.material_info.codes_key.Goals as goal

-- what a man of a code adds to a key
man_small : (code : ℕ) → code < 16 → 1 * 2 ^ (3 * code) % 18446744073709551616 ≤ 2 ^ 45
man_small code h =
    let few : 3 * code ≤ 45 = omega (arith, h) in
    let small : 2 ^ (3 * code) ≤ 2 ^ 45 = pow_mono few in
    omega (arith, small, mod-le (1 * 2 ^ (3 * code)) 18446744073709551616)

pub overflow_mul-key : goal.overflow_mul-key
overflow_mul-key c = let h = c.requires.small _ (IsIn-at c.args.codes.now c.loop-code.code-index 0 (omega arith)) in omega (arith, h)

pub overflow_shl-key : goal.overflow_shl-key
overflow_shl-key c = let h = c.requires.small _ (IsIn-at c.args.codes.now c.loop-code.code-index 0 (omega arith)) in omega (arith, h)

pub overflow_add-key : goal.overflow_add-key
overflow_add-key c =
    let codes = c.args.codes.now in let i = c.loop-code.code-index in
    let man = man_small (get_or codes i 0) (c.requires.small _ (IsIn-at codes i 0 (omega arith))) in
    let small = c.loop-code.invariant.small in let few = c.requires.few in omega (arith, man, small, few)

pub loop-code-preserved : goal.loop-code-preserved
loop-code-preserved c =
    let codes = c.args.codes.now in let i = c.loop-code.code-index in
    let h = c.requires.small _ (IsIn-at codes i 0 (omega arith)) in
    let stated = key_stated (get_or codes i 0) h in let man = man_small (get_or codes i 0) h in
    let more = sum_by_more (λ (n : ℕ). 8 ^ n) codes i 0 (omega arith) in
    let is = c.loop-code.invariant.is in let small = c.loop-code.invariant.small in
    record { is = omega (arith, more, stated, is); small = omega (arith, man, small) }
