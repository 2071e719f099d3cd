use Rattle.szg_pairs.proofs.Finding.{first_child_finds}
use Rattle.szg_pairs.proofs.laws.first_child_finds.Goals as goal

pub returns : goal.returns
returns c = first_child_finds
