use Rattle.std.proofs.Common.{◌≡◌, ℕ, ◌+◌, ◌-◌, ◌<◌, ◌≤◌, List, ◌++◌, length, get_or}
use Rattle.szg_io.specs.Moved.{Takes}
use Rattle.szg_build.specs.Held.{held_of}
use Rattle.szg_build.proofs.reading.line.next_line.Given as goal

-- Bytes were read and are buffered after the others; if a line of at least `least` bytes ends in them, at most `behind`
-- bytes follow it.
abbrev pub invariant-chunks : goal.invariant-chunks
invariant-chunks g l =
    (taken : List ℕ)
    × Takes g.R.Input l.fn.input l.input taken 0
    × (held_of l.incoming ≡ held_of l.fn.incoming ++ taken)
    × (g.R.Input.failures l.input ≡ g.R.Input.failures l.fn.input)
    × (l.incoming.line ≡ l.line)
    × ((n : ℕ) → n < length (held_of l.incoming) → get_or (held_of l.incoming) n 0 ≡ 10 → l.least ≤ n + 1 → length (held_of l.incoming) ≤ n + 1 + l.following)

abbrev pub decreases-chunks : goal.decreases-chunks
decreases-chunks g l = 81 - length (held_of l.incoming)
