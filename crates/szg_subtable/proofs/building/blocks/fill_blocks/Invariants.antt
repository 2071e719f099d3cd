use Rattle.std.proofs.Common.{◌<◌, take}
use Rattle.szg_subtable.specs.Building.{IsFilling}
use Rattle.szg_subtable.proofs.building.blocks.fill_blocks.Given as goal

-- the symbols so far fill blocks
abbrev pub invariant-loop-symbol : goal.invariant-loop-symbol
invariant-loop-symbol l = record {
  filling : IsFilling l.code l.dict l.block_bits (take l.symbol-index l.symbols) l.filling.lengths.items l.filling.packed.items l.filling.buffer l.filling.values;
  some : 0 < l.symbol-index → 0 < l.filling.values;
}
