use Rattle.szg_count.proofs.Free.{free_count_law as law}
use Rattle.szg_count.proofs.laws.free_count.Goals as goal

pub returns : goal.returns
returns c = law
