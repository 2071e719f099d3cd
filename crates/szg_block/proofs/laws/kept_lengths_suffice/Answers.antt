use Rattle.szg_block.proofs.KeptLayouts.{kept_lengths_suffice}
use Rattle.szg_block.proofs.laws.kept_lengths_suffice.Goals as goal

pub returns : goal.returns
returns c = kept_lengths_suffice
