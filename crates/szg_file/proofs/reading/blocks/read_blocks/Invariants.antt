use Rattle.std.proofs.Common.{◌+◌, ◌*◌, ◌≤◌, ◌^◌, length, map, take, Ok, ◌≡◌}
use Rattle.szg_file.specs.File.{each, blocks_field}
use Rattle.szg_file.specs.Held.{subtable_of}
use Rattle.szg_file.specs.Reading.{Reading}
use Rattle.szg_file.specs.Grown.{HasCounted, begun_lengths, subs_lengths}
use Rattle.szg_file.proofs.reading.blocks.read_blocks.Given as goal

abbrev pub invariant-subtables : goal.invariant-subtables
invariant-subtables g l = record {
  read : Reading (each blocks_field (take (length l.yielded) l.fn.list.items)) (λ subs. map subtable_of subs.items) l.fn.state l.state g.R.Input l.fn.input l.input (Ok l.subs);
  count : length l.subs.items ≡ length l.yielded;
  place : l.state.place ≤ l.fn.state.place + length l.yielded * 2 ^ 51;
  growth : l.state.growth + 2 * l.fn.state.place ≤ l.fn.state.growth + 2 * l.state.place + length l.yielded;
  grown : HasCounted l.fn.state l.state (begun_lengths l.yielded) (length l.subs.items + subs_lengths l.subs.items);
}
