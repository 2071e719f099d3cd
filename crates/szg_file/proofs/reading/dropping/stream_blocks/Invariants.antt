use Rattle.std.proofs.Common.{◌≡◌, ◌+◌, ◌*◌, ◌≤◌, ◌^◌, Ok}
use Rattle.std.specs.Prelude.{IfSome}
use Rattle.szg_block.specs.Block.{start}
use Rattle.szg_block.specs.Subtable.{layout_of}
use Rattle.szg_file.specs.File.{blocks_from}
use Rattle.szg_file.specs.Placed.{since}
use Rattle.szg_file.specs.Reading.{Reading}
use Rattle.szg_file.specs.Streaming.{Accepted, values_if}
use Rattle.szg_file.proofs.Readers.Streamed.{first_values}
use Rattle.szg_file.proofs.reading.dropping.stream_blocks.Given as goal

abbrev pub invariant-each_block : goal.invariant-each_block
invariant-each_block g l = record {
  read : IfSome (layout_of l.sub) (λ layout. Reading (blocks_from layout l.size 0 l.n) (λ (_ : Unit {0}). since (g.R.Input.moved l.fn.input) (g.R.Input.moved l.input)) l.fn.state l.state g.R.Input l.fn.input l.input (Ok tt));
  before : IfSome (layout_of l.sub) (λ layout. l.before ≡ start layout.lengths l.n);
  few : l.before ≤ l.n * 65536;
  count : IfSome (layout_of l.sub) (λ layout. l.state.place ≡ l.fn.state.place + l.n * 2 ^ layout.block_bits);
  place : l.state.place ≤ l.fn.state.place + l.n * 2 ^ 18;
  growth : l.state.growth ≡ l.fn.state.growth;
  accepted : IfSome (layout_of l.sub) (λ layout. Accepted g.K.ValueSink.accepts (values_if l.wanted (first_values layout (since (g.R.Input.moved l.fn.input) (g.R.Input.moved l.input)) l.size l.n)) l.fn.sink l.fn.out l.sink l.out);
  wanted : g.K.ValueSink.wanted l.sink ≡ g.K.ValueSink.wanted l.fn.sink;
}
