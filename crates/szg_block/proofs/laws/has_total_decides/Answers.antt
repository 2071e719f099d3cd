use Rattle.szg_block.proofs.Finding.{has_total_decides}
use Rattle.szg_block.proofs.laws.has_total_decides.Goals as goal

pub returns : goal.returns
returns c = has_total_decides
