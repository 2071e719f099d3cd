use Rattle.szg_values.proofs.MaterialOf.{material_of_placement}
use Rattle.szg_values.proofs.laws.placement_has_material.Goals as goal

pub returns : goal.returns
returns c = material_of_placement
