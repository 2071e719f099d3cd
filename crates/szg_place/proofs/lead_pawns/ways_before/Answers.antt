use Rattle.std.proofs.Common.{◌≡◌, ◌+◌, ◌-◌, ◌*◌, sym, ap, ◌∙◌, arith}
use Rattle.std.specs.Prelude.{slice_index}
use Rattle.szg_place.specs.declared.lead_pawns.TheConstants.{WAYS_BEFORE}
use Rattle.szg_place.proofs.Ranks.LeadPawns.{one_way}
use Rattle.szg_place.proofs.lead_pawns.ways_before.Goals as goal

pub returns-then-pawns-eq1-clause-ways : goal.returns-then-pawns-eq1-clause-ways
returns-then-pawns-eq1-clause-ways c =
    let one = c.if-pawns-eq1.true in let seventh = c.requires.seventh in let second = c.requires.second in
    let way = one_way c.args.file (c.args.rank - 1) c.requires.file (omega (arith, seventh, second)) in
    let at : 24 * (c.args.pawns - 1) + 6 * c.args.file + (c.args.rank - 1) ≡ 6 * c.args.file + (c.args.rank - 1) = omega (arith, one) in
    c.from.ensures ∙ sym way ∙ ap (λ n. slice_index WAYS_BEFORE n) (sym at)
