use Rattle.szg_count.proofs.SubsetRanks.{subsets_rise as law}
use Rattle.szg_count.proofs.laws.subsets_rise.Goals as goal

pub returns : goal.returns
returns c = law
