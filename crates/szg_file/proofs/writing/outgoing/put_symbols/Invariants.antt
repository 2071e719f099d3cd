use Rattle.std.proofs.Common.{List, ℕ, [], ◌∷◌, take}
use Rattle.std.specs.Prelude.{Ok, flat_map}
use Rattle.szg_file.specs.FileOf.{written}
use Rattle.szg_file.specs.Writing.{Writing}
use Rattle.szg_file.proofs.writing.outgoing.put_symbols.Given as goal

-- the entries so far are written
abbrev pub invariant-symbols : goal.invariant-symbols
invariant-symbols g l =
    Writing {X = Unit {0}} (flat_map (λ (entry : List ℕ). written entry ∷ []) (take l.symbol l.dict)) l.initial.outgoing l.outgoing
    g.W.Output l.initial.output l.output (Ok tt)
