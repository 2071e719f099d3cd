use Rattle.szg_probe_laws.proofs.First.{first_keeps}
use Rattle.szg_probe_laws.proofs.first_keeps_result.Goals as goal

pub returns : goal.returns
returns c = λ classes numbers counter p first rest k right position are. first_keeps classes numbers counter p position right first rest are k
