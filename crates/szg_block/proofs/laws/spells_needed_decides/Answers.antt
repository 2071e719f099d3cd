use Rattle.szg_block.proofs.Finding.{spells_needed_decides}
use Rattle.szg_block.proofs.laws.spells_needed_decides.Goals as goal

pub returns : goal.returns
returns c = spells_needed_decides
