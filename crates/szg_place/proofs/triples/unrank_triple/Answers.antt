use Rattle.std.proofs.Common.{List, ℕ, sym, ap, ◌∙◌}
use Rattle.std.specs.Prelude.{Some}
use Rattle.szg_place.proofs.Ranks.TripleRanks.{triple_found}
use Rattle.szg_place.proofs.triples.unrank_triple.Goals as goal

pub returns : goal.returns
returns c = triple_found c.args.number c.requires ∙ ap (λ (l : List ℕ). Some l) (sym c.triple_of_rank.ensures)
