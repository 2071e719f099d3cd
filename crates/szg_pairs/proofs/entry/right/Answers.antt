use Rattle.std.proofs.Common.{◌≡◌, ℕ, ◌+◌, ◌*◌, ◌/◌, take, drop, slice_index, arith}
use Rattle.std.proofs.lemmas.Grind.{common_steps}
use Rattle.szg_pairs.specs.Entry.{right_of}
use Rattle.szg_pairs.proofs.entry.right.Goals as goal

high : (y z : ℕ) → (y + 256 * (z + 256 * 0)) / 16 ≡ 16 * z + y / 16
high y z = omega arith

pub returns : goal.returns
unfolding right_of
returns c =
    let xs = c.args.entry in
    let a : slice_index (take 2 (drop 1 xs)) 0 ≡ slice_index xs 1 = grind (arith, common_steps) in
    let b : slice_index (take 2 (drop 1 xs)) 1 ≡ slice_index xs 2 = grind (arith, common_steps) in
    let h = high (slice_index xs 1) (slice_index xs 2) in
    let e = c.read_u16.ensures in
    cc
