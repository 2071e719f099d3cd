use Rattle.std.proofs.Common.{◌∙◌, ap, refl, sym}
use Rattle.szg_file.specs.Index.{Index}
use Rattle.szg_place.proofs.Indexes.Probed.{one_side, spot_is}
use Rattle.szg_tables.proofs.OpenedSets.{same_index}
use Rattle.szg_tables.proofs.opened.number_in.Goals as goal

pub map_value-requires-clause-part : goal.map_value-requires-clause-part
map_value-requires-clause-part g c =
    let x : Index = c.index.result.now in let board = c.args.men.now in let spot = c.in-Ok.spot in
    one_side x c.index-2.result.now board spot (c.index-2.ensures ∙ same_index g.T.OpenTable.opened c.value.new.self c.args.table.now c.value.ensures.same ∙ sym c.index.ensures) (ap (λ (i : Index). i.kind) c.index.ensures ∙ c.requires.kind)
    (spot_is x x board spot refl c.in-Ok.ensures.refused c.in-Ok.ensures.spot) c.in-Ok.ensures.below
