use Rattle.szg_verify.proofs.Probed.{probed_class}
use Rattle.szg_verify.proofs.laws.probed_is_true.Goals as goal

pub returns : goal.returns
returns c = λ tables covers p k ok position covered is. probed_class tables covers ok p position covered k is
