use Rattle.szg_values.proofs.SideCounts.{name_letters as law}
use Rattle.szg_values.proofs.laws.name_letters.Goals as goal

pub returns : goal.returns
returns c = law
