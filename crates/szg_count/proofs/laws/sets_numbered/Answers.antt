use Rattle.szg_count.proofs.SubsetRanks.{sets_numbered as law}
use Rattle.szg_count.proofs.laws.sets_numbered.Goals as goal

pub returns : goal.returns
returns c = law
