use Rattle.std.proofs.Common.{◌∙◌, sym}
use Rattle.szg_probe.proofs.Search.{more_men}
use Rattle.szg_probe.proofs.distances.stored_distance.Goals as goal

pub number-requires : goal.number-requires
number-requires g c = more_men (g.T.Tables.stored c.args.tables.now) c.args.position.now c.args.class c.men.ensures.position c.requires (sym c.is_drawn.ensures ∙ c.if-is_drawn.false)
