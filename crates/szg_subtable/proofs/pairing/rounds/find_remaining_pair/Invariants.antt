use Rattle.std.proofs.Common.{ℕ, ◌+◌, ◌*◌, ◌<◌, ◌≤◌, length, get_or}
use Rattle.szg_subtable.proofs.pairing.rounds.find_remaining_pair.Given as goal

-- no pair that may be made with a left symbol so far occurs four times
abbrev pub invariant-loop-left : goal.invariant-loop-left
invariant-loop-left l = (left right : ℕ) → left < l.left → right < length l.lens → get_or l.lens left 0 + get_or l.lens right 0 ≤ 256 → get_or l.counts (left * length l.lens + right) 0 < 4

-- nor a pair with this left symbol and a right symbol so far, if it may be made, occurs four times
abbrev pub invariant-loop-right : goal.invariant-loop-right
invariant-loop-right l = (right : ℕ) → right < l.right → get_or l.lens l.left 0 + get_or l.lens right 0 ≤ 256 → get_or l.counts (l.left * length l.lens + right) 0 < 4
