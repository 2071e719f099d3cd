use Rattle.szg_verify.proofs.Checked.{checked_true}
use Rattle.szg_verify.proofs.laws.checked_is_true.Goals as goal

pub returns : goal.returns
returns c = λ tables covers p ok position covered. checked_true tables covers ok p position covered
