use Rattle.szg_probe.proofs.Known.{probed_known}
use Rattle.szg_probe.proofs.laws.probed_is_known.Goals as goal

pub returns : goal.returns
returns c = probed_known
