use Rattle.szg_code.proofs.Finding.{first_overfull_finds}
use Rattle.szg_code.proofs.laws.first_overfull_finds.Goals as goal

pub returns : goal.returns
returns c = first_overfull_finds
