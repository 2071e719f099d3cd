use Rattle.std.proofs.Common.{◌≡◌, ◌+◌, ◌*◌, ◌<◌, ℕ, [], ◌∷◌, sym, ap, ◌∙◌, subst, arith}
use Rattle.std.specs.Prelude.{Some, slice_get, slice_index}
use Rattle.szg_count.specs.Leads.{king_pairs}
use Rattle.szg_place.specs.declared.triples.TheConstants.{TRIANGLE}
use Rattle.szg_place.specs.declared.kings.TheConstants.{KING_RANKS}
use Rattle.szg_place.proofs.Ranks.KingRanks.{king_number, kings_inside, kings_placed, kings_below, row_below}
use Rattle.szg_place.proofs.kings.rank_kings.Goals as goal
use Rattle.szg_place.proofs.kings.rank_kings.Goals.{After-from-3}

pub bounds-from : goal.bounds-from
bounds-from c = let a = (kings_inside c.args.first c.args.second c.requires).0 in let e = c.from.ensures in omega (arith, a, e)

pub bounds-row : goal.bounds-row
bounds-row c =
    let k = kings_inside c.args.first c.args.second c.requires in
    let a = row_below c.args.first k.0 in let b = k.1 in
    let e : c.from-row.result ≡ slice_index TRIANGLE c.args.first = c.from-row.ensures ∙ ap (slice_index TRIANGLE) c.from.ensures in let f = c.from-2.ensures in omega (arith, a, b, e, f)

stated : (c : After-from-3) → c.from-3.result ≡ king_number c.args.first c.args.second
stated c =
    let e : c.from-row.result ≡ slice_index TRIANGLE c.args.first = c.from-row.ensures ∙ ap (slice_index TRIANGLE) c.from.ensures in
    c.from-3.ensures ∙ ap (λ n. slice_index KING_RANKS (64 * n + c.from-2.result)) e
    ∙ ap (λ n. slice_index KING_RANKS (64 * slice_index TRIANGLE c.args.first + n)) c.from-2.ensures

pub returns-clause-number : goal.returns-clause-number
returns-clause-number c =
    let a = c.args.first in let b = c.args.second in
    subst (λ (n : ℕ). slice_get king_pairs n ≡ Some (a ∷ b ∷ [])) (sym (stated (goal.at.returns-clause-number c).After-from-3)) (kings_placed a b c.requires)

pub returns-clause-below : goal.returns-clause-below
returns-clause-below c = subst (λ (n : ℕ). n < 462) (sym (stated (goal.at.returns-clause-below c).After-from-3)) (kings_below c.args.first c.args.second c.requires)
