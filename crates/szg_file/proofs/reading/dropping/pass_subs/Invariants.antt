use Rattle.std.proofs.Common.{◌≡◌, ◌+◌, ◌*◌, ◌≤◌, ◌^◌, length, map, take, Ok}
use Rattle.std.specs.List.{AllByRecursion}
use Rattle.szg_file.specs.File.{Begun, each, blocks_field}
use Rattle.szg_file.specs.Placed.{whole_sub, Fits}
use Rattle.szg_file.specs.Reading.{Reading}
use Rattle.szg_file.specs.Streaming.{Accepted, wanted_values}
use Rattle.szg_file.specs.Values.{slotted}
use Rattle.szg_file.proofs.reading.dropping.pass_subs.Given as goal

abbrev pub invariant-subtables : goal.invariant-subtables
invariant-subtables g l = record {
  read : Reading (each blocks_field (take (length l.yielded) l.fn.list.items)) (λ subs. map (whole_sub (g.R.Input.moved l.input)) subs.items) l.fn.state l.state g.R.Input l.fn.input l.input (Ok l.subs);
  fits : AllByRecursion (Fits (length (g.R.Input.moved l.input)) (length l.buffer.items)) l.subs.items;
  many : length l.subs.items ≡ length l.yielded;
  accepted : Accepted g.K.ValueSink.accepts (wanted_values (g.K.ValueSink.wanted l.fn.sink) l.fn.kind (slotted (map (λ (m : Begun). m.slot) (take (length l.yielded) l.fn.list.items)) (map (whole_sub (g.R.Input.moved l.input)) l.subs.items))) l.fn.sink l.fn.out l.sink l.out;
  wanted : g.K.ValueSink.wanted l.sink ≡ g.K.ValueSink.wanted l.fn.sink;
  at : l.state.place ≡ length (g.R.Input.moved l.input);
  place : l.state.place ≤ l.fn.state.place + length l.yielded * 2 ^ 51;
  growth : l.state.growth + 2 * l.fn.state.place ≤ l.fn.state.growth + 2 * l.state.place + length l.yielded;
}
