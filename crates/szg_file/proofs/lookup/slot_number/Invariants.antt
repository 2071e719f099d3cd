use Rattle.std.proofs.Common.{◌≡◌, ◌+◌, ◌&&◌, nat_eq, drop}
use Rattle.std.specs.List.{position_or_len}
use Rattle.szg_file.proofs.lookup.slot_number.Given as goal

-- the first slot at or after n, or the number of slots
abbrev pub invariant-loop-n : goal.invariant-loop-n
invariant-loop-n l = l.number ≡ l.n + position_or_len (λ slot. nat_eq slot.part l.part && nat_eq slot.side l.side) (drop l.n l.slots)
