use Rattle.szg_count.proofs.SubsetRanks.{subsets_fall as law}
use Rattle.szg_count.proofs.laws.subsets_fall.Goals as goal

pub returns : goal.returns
returns c = law
