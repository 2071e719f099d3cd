use Rattle.std.proofs.Common.{◌≡◌, ℕ, ◌<◌, get_or}
use Rattle.szg_build.proofs.writing.run_length.Given as goal

-- the values so far are equal
abbrev pub invariant-values : goal.invariant-values
invariant-values l = (k : ℕ) → k < l.count → get_or l.values k 0 ≡ get_or l.values 0 0
