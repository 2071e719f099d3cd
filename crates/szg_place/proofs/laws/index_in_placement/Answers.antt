use Rattle.szg_place.proofs.Indexes.IndexAgain.{answered_again, spot_again}
use Rattle.szg_place.proofs.laws.index_in_placement.Goals as goal

pub returns-clause-accepted : goal.returns-clause-accepted
returns-clause-accepted c stated = answered_again c.args.table.now c.args.part c.args.side c.args.index c.material_info.ensures.is_valid
    c.material_info.ensures.named c.requires.there c.requires.below stated

pub returns-clause-spot : goal.returns-clause-spot
returns-clause-spot c stated = spot_again c.args.table.now c.args.part c.args.side c.args.index c.material_info.ensures.is_valid
    c.material_info.ensures.named c.requires.there c.requires.below stated
