use Rattle.szg_subtable.specs.Building.{AreLens, IsRound}
use Rattle.szg_subtable.proofs.pairing.rounds.pair_slowly.Given as goal

-- a pair was made in each round so far
abbrev pub invariant-loop-done : goal.invariant-loop-done
invariant-loop-done g l = record {
  round : IsRound l.values l.done l.paired.entries.items l.paired.symbols.items;
  lens : AreLens l.paired.entries.items l.paired.lens.items;
}
