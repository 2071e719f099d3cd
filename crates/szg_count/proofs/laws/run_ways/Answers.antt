use Rattle.szg_count.proofs.Formulas.{run_ways as law}
use Rattle.szg_count.proofs.laws.run_ways.Goals as goal

pub returns : goal.returns
returns c = law
