use Rattle.std.proofs.Common.{◌∙◌, ap}
use Rattle.szg_values.specs.Material.{Sides}
use Rattle.szg_values.specs.Placement.{Board, material_of}
use Rattle.szg_tables.specs.declared.Missing.{Missing}
use Rattle.szg_tables.proofs.Stored.{placed_is}
use Rattle.szg_tables.proofs.opened.missing.Goals as goal

pub returns : goal.returns
returns c =
    let p = c.args.position.now in
    let is = placed_is p.placed_men p.mover c.placement.result c.in-Some.placement c.placement.ensures.placed c.requires c.in-Some.is in
    ap (λ (m : Sides). let here : Missing = record { material = m; kind = c.args.kind; reason = c.args.reason } in here) (c.material.ensures ∙ ap (λ (b : Board). material_of b.placed_men) is)
