use Rattle.szg_pairs.proofs.Finding.{first_long_finds}
use Rattle.szg_pairs.proofs.laws.first_long_finds.Goals as goal

pub returns : goal.returns
returns c = first_long_finds
