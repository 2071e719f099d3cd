use Rattle.szg_verify.proofs.Whole.{walk_is_whole}
use Rattle.szg_verify.proofs.laws.walk_is_whole.Goals as goal

pub returns : goal.returns
returns c = walk_is_whole
