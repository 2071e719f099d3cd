use Rattle.szg_count.proofs.Radix.{index_below as law}
use Rattle.szg_count.proofs.laws.index_below.Goals as goal

pub returns : goal.returns
returns c = law
