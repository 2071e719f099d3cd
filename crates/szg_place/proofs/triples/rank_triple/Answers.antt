use Rattle.std.proofs.Common.{◌≡◌, ◌<◌, ℕ, [], ◌∷◌, sym, subst}
use Rattle.std.specs.Prelude.{Some, slice_get}
use Rattle.szg_count.specs.Leads.{triples}
use Rattle.szg_place.proofs.Ranks.TripleRanks.{triple_inside, triple_placed, triple_below}
use Rattle.szg_place.proofs.triples.rank_triple.Goals as goal

pub triple_number-requires : goal.triple_number-requires
triple_number-requires c = let k = triple_inside c.args.s c.args.t c.args.u c.requires in record { first = k.0; second = k.1; third = k.2; apart = k.3 }

pub returns-clause-number : goal.returns-clause-number
returns-clause-number c =
    let s = c.args.s in let t = c.args.t in let u = c.args.u in
    subst (λ (n : ℕ). slice_get triples n ≡ Some (s ∷ t ∷ u ∷ [])) (sym c.triple_number.ensures) (triple_placed s t u c.requires)

pub returns-clause-below : goal.returns-clause-below
returns-clause-below c = subst (λ (n : ℕ). n < 31332) (sym c.triple_number.ensures) (triple_below c.args.s c.args.t c.args.u c.requires)
