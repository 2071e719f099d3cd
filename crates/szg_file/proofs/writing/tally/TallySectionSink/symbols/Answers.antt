use Rattle.std.proofs.Common.{ℕ, List, ◌∷◌, [], subst, arith}
use Rattle.std.specs.Prelude.{flat_map}
use Rattle.std.proofs.lemmas.List.{take_all}
use Rattle.szg_file.specs.FileOf.{written}
use Rattle.szg_file.specs.Tally.{Counts}
use Rattle.szg_file.proofs.Writers.TallyLaws.{counts_entry}
use Rattle.szg_file.proofs.writing.tally.TallySectionSink.symbols.Goals as goal

pub symbols-preserved : goal.symbols-preserved
symbols-preserved g c =
    counts_entry c.args.dict.now c.symbols.symbol c.entry.result c.entry.ensures c.symbols.invariant
    (omega (arith, c.field.ensures.place, c.entry.type_inv)) c.field.ensures.fill

pub returns : goal.returns
returns g c =
    subst (λ (z : List (List ℕ)). Counts (written (flat_map (λ (entry : List ℕ). entry) z) ∷ []) c.args.self.now c.symbols.self)
    (take_all c.symbols.symbol c.args.dict.now (omega (arith, c.symbols-symbol-end.ensures.number))) c.symbols.invariant
