use Rattle.std.proofs.Common.{[], ◌∷◌, take}
use Rattle.std.specs.Prelude.{flat_map}
use Rattle.szg_file.specs.FileOf.{written}
use Rattle.szg_file.specs.Tally.{Counts}
use Rattle.szg_file.proofs.writing.tally.TallySectionSink.symbols.Given as goal

-- the entries so far are counted
abbrev pub invariant-symbols : goal.invariant-symbols
invariant-symbols g l = Counts (written (flat_map (λ entry. entry) (take l.symbol l.dict)) ∷ []) l.initial.self l.self
