use Rattle.std.proofs.Common.{◌<◌, ◌∙◌, subst}
use Rattle.std.specs.Prelude.{IsSomeAnd}
use Rattle.szg_file.specs.Index.{Index, slot_in}
use Rattle.szg_place.proofs.Indexes.Probed.{one_side, spot_is}
use Rattle.szg_place.proofs.probes.probe_number.Goals as goal

pub map_value-requires-clause-part : goal.map_value-requires-clause-part
map_value-requires-clause-part g c =
    let x = g.V.Values.index_in c.args.values in let spot = c.in-Ok.spot in
    let same = c.index-2.ensures ∙ c.value.ensures.index in
    let is = spot_is c.index.result.now x c.args.placement.now spot c.index.ensures c.in-Ok.ensures.refused c.in-Ok.ensures.spot in
    one_side x c.index-2.result.now c.args.placement.now spot same c.requires.kind is
    (subst (λ (y : Index). IsSomeAnd (slot_in y spot.part spot.side) (λ slot. spot.index < slot.size)) c.index.ensures c.in-Ok.ensures.below)
