use Rattle.std.proofs.Common.{◌*◌, ◌≤◌, ◌%◌, ◌^◌, arith, rules}
use Rattle.std.proofs.Math.Nat.{mod-le, mul-le-mul}
use Rattle.std.proofs.Math.Pow.{pow_mono}
use Rattle.szg_file.proofs.opened.front_table.place_blocks.Goals as goal

pub returns-in-Pairs-clause-long : goal.returns-in-Pairs-clause-long
returns-in-Pairs-clause-long c =
    let few = rw c.in-Pairs.is at c.requires.bits in
    let small : 2 ^ c.in-Pairs.block_bits ≤ 2 ^ 18 = pow_mono few in
    let size : 1 * 2 ^ c.in-Pairs.block_bits % 18446744073709551616 ≤ 2 ^ 18 = omega (arith, small, mod-le (1 * 2 ^ c.in-Pairs.block_bits) 18446744073709551616) in
    let many : c.from.result ≤ 2 ^ 32 = search rules in
    let product : c.from.result * (1 * 2 ^ c.in-Pairs.block_bits % 18446744073709551616) ≤ 2 ^ 32 * 2 ^ 18 = mul-le-mul many size in
    omega (arith, product, c.padding_to_64.ensures.few)
