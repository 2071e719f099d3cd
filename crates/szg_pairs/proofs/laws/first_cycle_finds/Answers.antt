use Rattle.szg_pairs.proofs.Finding.{first_cycle_finds}
use Rattle.szg_pairs.proofs.laws.first_cycle_finds.Goals as goal

pub returns : goal.returns
returns c = first_cycle_finds
