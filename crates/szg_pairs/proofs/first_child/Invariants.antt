use Rattle.std.proofs.Common.{ℕ, ◌<◌}
use Rattle.szg_pairs.specs.Entry.{NamesSymbols}
use Rattle.szg_pairs.proofs.first_child.Given as goal

abbrev pub invariant-loop-symbol : goal.invariant-loop-symbol
invariant-loop-symbol l = (k : ℕ) → k < l.symbol → NamesSymbols l.entries k
