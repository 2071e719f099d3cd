use Rattle.szg_count.proofs.Counting.{set_count as law}
use Rattle.szg_count.proofs.laws.set_count.Goals as goal

pub returns : goal.returns
returns c = law
