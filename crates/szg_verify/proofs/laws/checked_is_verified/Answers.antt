use Rattle.szg_verify.proofs.Checked.{verified}
use Rattle.szg_verify.proofs.laws.checked_is_verified.Goals as goal

pub returns : goal.returns
returns c = λ tables covers ok. verified tables covers ok
