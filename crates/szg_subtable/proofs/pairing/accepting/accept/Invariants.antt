use Rattle.std.proofs.Common.{ℕ, ◌≡◌, ◌<◌, length, get_or}
use Rattle.szg_pairs.specs.Expansion.{expansion_of}
use Rattle.szg_subtable.proofs.pairing.accepting.accept.Given as goal

-- the lengths of the symbols so far
abbrev pub invariant-loop-symbol : goal.invariant-loop-symbol
invariant-loop-symbol l = record {
  count : length l.lens.items ≡ l.symbol;
  each : (s : ℕ) → s < l.symbol → get_or l.lens.items s 0 ≡ length (expansion_of l.proposal.entries.items s);
}
