use Rattle.szg_count.proofs.SubsetRanks.{ranked as law}
use Rattle.szg_count.proofs.laws.rank_subset_sum.Goals as goal

pub returns : goal.returns
returns c = law
