use Rattle.szg_count.proofs.Sizes.{size_below as law}
use Rattle.szg_count.proofs.laws.size_below.Goals as goal

pub returns : goal.returns
returns c = law
