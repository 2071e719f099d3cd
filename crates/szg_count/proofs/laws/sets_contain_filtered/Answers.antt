use Rattle.szg_count.proofs.Differ.{sets_contain_filtered as law}
use Rattle.szg_count.proofs.laws.sets_contain_filtered.Goals as goal

pub returns : goal.returns
returns c = law
