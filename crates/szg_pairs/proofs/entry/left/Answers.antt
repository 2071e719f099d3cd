use Rattle.std.proofs.Common.{◌≡◌, ℕ, ◌+◌, ◌*◌, ◌%◌, ◌<◌, slice_index, arith}
use Rattle.szg_pairs.specs.Entry.{left_of}
use Rattle.szg_pairs.proofs.entry.left.Goals as goal

low : (x y : ℕ) → x < 256 → (x + 256 * y) % 4096 ≡ x + 256 * (y % 16)
low x y fits = omega (arith, fits)

pub returns : goal.returns
unfolding left_of
returns c =
    let xs = c.args.entry in
    let fits : slice_index xs 0 < 256 = let byte = c.if-prove.false in omega (arith, byte) in
    let h = low (slice_index xs 0) (slice_index xs 1) fits in
    let e = c.read_u16.ensures in
    omega (arith, e, h)
