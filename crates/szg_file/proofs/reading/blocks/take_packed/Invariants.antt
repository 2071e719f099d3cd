use Rattle.std.proofs.Common.{◌≡◌, ◌+◌, ◌*◌, ◌≤◌, ◌^◌, Ok, length}
use Rattle.std.specs.Prelude.{IfSome}
use Rattle.szg_block.specs.Block.{start}
use Rattle.szg_block.specs.Subtable.{layout_of}
use Rattle.szg_file.specs.File.{blocks_from}
use Rattle.szg_file.specs.Reading.{Reading}
use Rattle.szg_file.specs.Grown.{HasCounted}
use Rattle.szg_file.proofs.reading.blocks.take_packed.Given as goal

abbrev pub invariant-each_block : goal.invariant-each_block
invariant-each_block g l = record {
  read : IfSome (layout_of l.sub) (λ layout. Reading (blocks_from layout l.size 0 l.n) (λ packed. packed.items) l.fn.state l.state g.R.Input l.fn.input l.input (Ok l.packed));
  before : IfSome (layout_of l.sub) (λ layout. l.before ≡ start layout.lengths l.n);
  few : l.before ≤ l.n * 65536;
  place : l.state.place ≤ l.fn.state.place + l.n * 2 ^ 18;
  growth : l.state.growth + 2 * l.fn.state.place ≤ l.fn.state.growth + 2 * l.state.place;
  grown : HasCounted l.fn.state l.state 0 (length l.packed.items);
}
