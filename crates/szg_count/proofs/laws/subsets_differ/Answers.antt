use Rattle.szg_count.proofs.Formulas.{subsets_differ as law}
use Rattle.szg_count.proofs.laws.subsets_differ.Goals as goal

pub returns : goal.returns
returns c = law
