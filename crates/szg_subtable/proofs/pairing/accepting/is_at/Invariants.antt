use Rattle.std.proofs.Common.{ℕ, ◌≡◌, ◌<◌, get_or}
use Rattle.szg_pairs.specs.Expansion.{expansion_of}
use Rattle.szg_subtable.proofs.pairing.accepting.is_at.Given as goal

-- the values so far are those of the symbol
abbrev pub invariant-loop-place : goal.invariant-loop-place
invariant-loop-place l = (k : ℕ) → k < l.place → get_or l.here k 0 ≡ get_or (expansion_of l.dict l.symbol) k 0
