use Rattle.szg_verified.proofs.SameFolder.{folder_is_true}
use Rattle.szg_verified.proofs.laws.folder_is_true.Goals as goal

pub returns : goal.returns
returns c = folder_is_true
