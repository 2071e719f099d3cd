use Rattle.std.proofs.Common.{◌≡◌, ◌<◌, ℕ, []}
use Rattle.szg_pairs.specs.Walk.{IsWalk, IsSeen}
use Rattle.szg_pairs.proofs.walk.find_lengths.Given as goal

abbrev pub invariant-loop-symbol : goal.invariant-loop-symbol
invariant-loop-symbol l = record {
  walk : IsWalk l.entries l.walk.lengths.items l.walk.seen.items [];
  at_rest : l.walk.path.items ≡ [];
  entered : (s : ℕ) → s < l.symbol → IsSeen l.walk.seen.items s;
}
