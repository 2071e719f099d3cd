use Rattle.szg_count.proofs.Differ.{sets_differ as law}
use Rattle.szg_count.proofs.laws.sets_differ.Goals as goal

pub returns : goal.returns
returns c = law
