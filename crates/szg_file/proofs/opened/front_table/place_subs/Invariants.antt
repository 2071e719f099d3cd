use Rattle.std.proofs.Common.{ℕ, List, ◌≡◌, ◌+◌, ◌*◌, ◌≤◌, ◌^◌, length, map, take}
use Rattle.std.specs.List.{AllByRecursion}
use Rattle.szg_file.specs.Placed.{whole_sub, Fits}
use Rattle.szg_file.specs.Unread.{unread_subs, unread_end}
use Rattle.szg_file.proofs.opened.front_table.place_subs.Given as goal

-- the subtables so far, and the offset after the last block
abbrev pub invariant-subtables : goal.invariant-subtables
invariant-subtables l = record {
  subs : (content : List ℕ) → map (whole_sub content) l.subs.items ≡ unread_subs content l.fn.place (take (length l.yielded) l.fn.list.items);
  end : l.end ≡ unread_end l.fn.place (take (length l.yielded) l.fn.list.items);
  few : l.end ≤ l.fn.place + length l.yielded * 2 ^ 51;
  fits : (content : List ℕ) → l.end ≤ length content → AllByRecursion (Fits (length content) l.room) l.subs.items;
}
