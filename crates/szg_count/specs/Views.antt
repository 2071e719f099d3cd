-- Public views of `Order` and `Groups`.
use Rattle.std.specs.Prelude.{ℕ, List, [], map, take, length, slice_get, slice_index, unwrap_or}
use Rattle.std.specs.List.{concat, range_with_len}
use Rattle.szg_count.specs.Groups.{Nibbles, Counted}
use Rattle.szg_count.specs.declared.Order.{Order}
use Rattle.szg_count.specs.declared.Group.{Group}

-- an order as nibbles
abbrev pub nibbles_in : Order → Nibbles
nibbles_in order = record { lead = order.lead; other = order.other; men = order.men.items }

-- group i: its first slot, which is the number of men of the groups before it, its length, ways and factor
abbrev pub group_at : Counted → ℕ → Group
group_at c i = record {
  first = length (concat (take i c.groups));
  length = length (unwrap_or (slice_get c.groups i) []);
  ways = slice_index c.ways i;
  factor = slice_index c.factors i;
}

-- the groups in slot order
unfoldable pub groups_in_slot_order : Counted → List Group
groups_in_slot_order c = map (group_at c) (range_with_len 0 (length c.groups))
