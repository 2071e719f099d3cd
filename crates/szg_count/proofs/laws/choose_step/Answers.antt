use Rattle.szg_count.proofs.Counting.{choose_step as law}
use Rattle.szg_count.proofs.laws.choose_step.Goals as goal

pub returns : goal.returns
returns c = law
