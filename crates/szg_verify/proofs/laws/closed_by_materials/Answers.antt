use Rattle.szg_verify.proofs.Materials.{closed_by_materials}
use Rattle.szg_verify.proofs.laws.closed_by_materials.Goals as goal

pub returns : goal.returns
returns c = closed_by_materials
