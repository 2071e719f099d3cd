use Rattle.std.proofs.Common.{◌≡◌, length, sym, ap, ◌∙◌, true, false}
use Rattle.szg_values.specs.Material.{has_pawns, has_single_lead}
use Rattle.szg_count.specs.Leads.{lead_pawn_sets}
use Rattle.szg_count.proofs.Counts.{lead_ways-pawns, lead_ways-three, lead_ways-kings}
use Rattle.szg_count.proofs.ways.lead_ways.Goals as goal

pub returns-then-has_pawns : goal.returns-then-has_pawns
returns-then-has_pawns c =
    let e : has_pawns c.args.material.now ≡ true = cc in
    c.lead_pawn_ways.ensures ∙ ap (λ k. length (lead_pawn_sets k c.args.part)) c.lead_pawns.ensures ∙ sym (lead_ways-pawns c.args.material.now c.args.part e)

pub returns-then-single_lead : goal.returns-then-single_lead
returns-then-single_lead c =
    let e : has_pawns c.args.material.now ≡ false = cc in
    let f : has_single_lead c.args.material.now ≡ true = cc in
    sym (lead_ways-three c.args.material.now c.args.part e f)

pub returns-else-single_lead : goal.returns-else-single_lead
returns-else-single_lead c =
    let e : has_pawns c.args.material.now ≡ false = cc in
    let f : has_single_lead c.args.material.now ≡ false = cc in
    sym (lead_ways-kings c.args.material.now c.args.part e f)
