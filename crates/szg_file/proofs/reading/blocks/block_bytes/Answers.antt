use Rattle.std.proofs.Common.{◌*◌, ◌≤◌, ◌^◌, arith}
use Rattle.std.proofs.Math.Nat.{mod-le}
use Rattle.std.proofs.Math.Pow.{pow_mono}
use Rattle.szg_file.proofs.reading.blocks.block_bytes.Goals as goal

pub returns-in-Pairs-clause-most : goal.returns-in-Pairs-clause-most
returns-in-Pairs-clause-most c =
    let few = rw c.in-Pairs.is at c.requires in
    let small : 2 ^ c.in-Pairs.block_bits ≤ 2 ^ 18 = pow_mono few in
    omega (arith, small, mod-le (1 * 2 ^ c.in-Pairs.block_bits) 18446744073709551616)
