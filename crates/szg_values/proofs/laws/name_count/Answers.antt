use Rattle.szg_values.proofs.AllNames.{name_count as law}
use Rattle.szg_values.proofs.laws.name_count.Goals as goal

pub returns : goal.returns
returns c = law
