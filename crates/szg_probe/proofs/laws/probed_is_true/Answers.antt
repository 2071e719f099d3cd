use Rattle.szg_probe.proofs.Probed.{probed_true}
use Rattle.szg_probe.proofs.laws.probed_is_true.Goals as goal

pub returns : goal.returns
returns c = probed_true
