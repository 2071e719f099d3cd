use Rattle.std.proofs.Common.{◌+◌, ◌*◌, ◌≤◌, map, take, Ok, option_map, length}
use Rattle.szg_file.specs.File.{Begun, each, map_field}
use Rattle.szg_file.specs.Held.{map_of}
use Rattle.szg_file.specs.Reading.{Reading}
use Rattle.szg_file.specs.Grown.{HasCounted, maps_lengths}
use Rattle.szg_file.proofs.reading.maps.read_maps.Given as goal

abbrev pub invariant-heads : goal.invariant-heads
invariant-heads g l = record {
  read : Reading (each map_field (take l.head-index (map (λ (b : Begun). b.subtable) l.heads))) (λ list. map (option_map map_of) list.items) l.fn.state l.state g.R.Input l.fn.input l.input (Ok l.list);
  place : l.state.place ≤ l.fn.state.place + l.head-index * 600000;
  growth : l.state.growth + 2 * l.fn.state.place ≤ l.fn.state.growth + 2 * l.state.place + l.head-index;
  grown : HasCounted l.fn.state l.state 0 (length l.list.items + maps_lengths l.list.items);
}
