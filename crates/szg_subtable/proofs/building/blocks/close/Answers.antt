use Rattle.std.proofs.Common.{ℕ, ◌-◌, ◌++◌, ◌≤◌, ◌^◌, false, length, replicate, arith}
use Rattle.szg_block.proofs.Powers.{shifted_one}
use Rattle.szg_subtable.proofs.Builders.BlockSteps.{padded_block, resized}
use Rattle.szg_subtable.proofs.Builders.WordBits.{block_holds}
use Rattle.szg_subtable.proofs.building.blocks.close.Goals as goal

pub returns-clause-block : goal.returns-clause-block
returns-clause-block c =
    let old = c.args.filling.now in
    let b : ℕ = c.args.block_bits in
    let moved = c.in_ok-move_to.ensures.bytes in
    let n : ℕ = 2 ^ b - length moved.0 in
    let holds : c.in_ok-move_to.field-0 ≤ 2 ^ b = block_holds b (length old.buffer) c.in_ok-move_to.field-0 c.requires.least_bits c.requires.fits c.in_ok-move_to.ensures.few in (
      moved.0 ++ replicate n 0,
      padded_block b old.buffer (replicate moved.1 false) moved.0 n moved.4 (omega (arith, holds, moved.2)),
      resized old.packed.items moved.0 c.move_to.new.packed.items c.resize.new.self.items _ _ (2 ^ b) moved.3 c.move_to.new.packed.ok.0 (omega (arith, holds, moved.2))
          (omega (arith, c.len.ensures, old.packed.ok.0, shifted_one b (omega (arith, c.requires.most_bits)))) c.in_ok-resize.ensures.items,
    )
