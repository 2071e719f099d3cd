use Rattle.szg_count.proofs.Counting.{subset_count as law}
use Rattle.szg_count.proofs.laws.subset_count.Goals as goal

pub returns : goal.returns
returns c = law
