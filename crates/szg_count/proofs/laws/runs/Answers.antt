use Rattle.szg_count.proofs.Rearranged.{runs as law}
use Rattle.szg_count.proofs.laws.runs.Goals as goal

pub returns : goal.returns
returns c = law
