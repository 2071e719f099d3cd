use Rattle.szg_code.proofs.Finding.{first_rise_finds}
use Rattle.szg_code.proofs.laws.first_rise_finds.Goals as goal

pub returns : goal.returns
returns c = first_rise_finds
