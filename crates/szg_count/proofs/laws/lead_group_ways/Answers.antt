use Rattle.szg_count.proofs.Formulas.{lead_group_ways as law}
use Rattle.szg_count.proofs.laws.lead_group_ways.Goals as goal

pub returns : goal.returns
returns c = law
