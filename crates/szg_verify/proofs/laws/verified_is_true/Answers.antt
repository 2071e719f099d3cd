use Rattle.szg_verify.proofs.Whole.{verified_is_true}
use Rattle.szg_verify.proofs.laws.verified_is_true.Goals as goal

pub returns : goal.returns
returns c = verified_is_true
