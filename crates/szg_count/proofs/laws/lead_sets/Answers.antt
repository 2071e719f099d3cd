use Rattle.szg_count.proofs.LeadSets.{lead_sets_contain_filtered as law}
use Rattle.szg_count.proofs.laws.lead_sets.Goals as goal

pub returns : goal.returns
returns c = law
