use Rattle.szg_count.proofs.Rearranged.{groups_joined as law}
use Rattle.szg_count.proofs.laws.groups_joined.Goals as goal

pub returns : goal.returns
returns c = law
