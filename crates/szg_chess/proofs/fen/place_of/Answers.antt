use Rattle.std.proofs.Common.{◌∙◌, sym, ℕ}
use Rattle.std.specs.Prelude.{◌==◌}
use Rattle.szg_chess.proofs.Cells.{place_some, place_none}
use Rattle.szg_chess.proofs.fen.place_of.Goals as goal

pub returns-in-Some-clause-place : goal.returns-in-Some-clause-place
returns-in-Some-clause-place c = place_some (λ (b : ℕ). b == c.args.separator) c.args.text.now c.in-Some.place (sym c.first_place.ensures ∙ c.in-Some.is)

pub returns-in-None-clause-place : goal.returns-in-None-clause-place
returns-in-None-clause-place c = place_none (λ (b : ℕ). b == c.args.separator) c.args.text.now (sym c.first_place.ensures ∙ c.in-None.is)
