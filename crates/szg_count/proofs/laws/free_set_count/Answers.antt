use Rattle.szg_count.proofs.Formulas.{free_set_count as law}
use Rattle.szg_count.proofs.laws.free_set_count.Goals as goal

pub returns : goal.returns
returns c = law
