use Rattle.szg_values.proofs.SideCounts.{men_of_placement as law}
use Rattle.szg_values.proofs.laws.men_of_placement.Goals as goal

pub returns : goal.returns
returns c = law
