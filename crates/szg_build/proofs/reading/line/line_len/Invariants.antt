use Rattle.std.proofs.Common.{◌≡◌, ℕ, ◌<◌, get_or}
use Rattle.szg_build.proofs.reading.line.line_len.Given as goal

-- none of the bytes so far ends the line
abbrev pub invariant-bytes : goal.invariant-bytes
invariant-bytes l = (k : ℕ) → k < l.i → get_or l.held k 0 ≡ 10 → ⊥
