use Rattle.std.proofs.Common.{◌≡◌, ◌+◌, ◌*◌, ◌≤◌, ◌^◌, length, map, take, Ok}
use Rattle.szg_file.specs.File.{Begun, each, head_field, begun}
use Rattle.szg_file.specs.Reading.{Reading}
use Rattle.szg_file.specs.Grown.{HasCounted, begun_lengths}
use Rattle.szg_file.proofs.reading.heads.read_heads.Given as goal

abbrev pub invariant-slots : goal.invariant-slots
invariant-slots g l = record {
  read : Reading (each head_field (take l.slot-index l.slots)) (λ list. map (λ (b : Begun). b.subtable) list.items) l.fn.state l.state g.R.Input l.fn.input l.input (Ok l.list);
  made : l.list.items ≡ begun (take l.slot-index l.slots) (map (λ (b : Begun). b.subtable) l.list.items);
  count : length l.list.items ≡ l.slot-index;
  place : l.state.place ≤ l.fn.state.place + l.slot-index * 2 ^ 18;
  growth : l.state.growth + 2 * l.fn.state.place ≤ l.fn.state.growth + 2 * l.state.place + l.slot-index;
  grown : HasCounted l.fn.state l.state 0 (length l.list.items + begun_lengths l.list.items);
}
