use Rattle.szg_block.proofs.KeptLayouts.{kept_locates}
use Rattle.szg_block.proofs.laws.sound_is_locatable.Goals as goal

pub returns : goal.returns
returns c = kept_locates
