use Rattle.szg_count.proofs.Differ.{leads_differ as law}
use Rattle.szg_count.proofs.laws.leads_differ.Goals as goal

pub returns : goal.returns
returns c = law
