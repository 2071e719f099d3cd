use Rattle.std.proofs.Common.{◌≡◌, ◌*◌, ◌≤◌, min, length, take}
use Rattle.szg_block.specs.Block.{start, block_at}
use Rattle.szg_block.proofs.Reading.{spelled_to}
use Rattle.szg_block.proofs.expanding.Sound+Whole.write_values.Given as goal

abbrev pub invariant-loop-n : goal.invariant-loop-n
invariant-loop-n l = record {
  known : l.start ≡ start l.lengths.items l.n;
  small : l.start ≤ 65536 * l.n;
  there : l.at ≡ min l.start (length l.values);
  joined : take l.at l.values ≡ spelled_to l.code l.dict l.lengths.items l.self-inside.size (block_at l.self-inside.blocks.block_bits l.self-inside.blocks.packed.now) l.n;
}
