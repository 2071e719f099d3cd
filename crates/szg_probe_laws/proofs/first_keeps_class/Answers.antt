use Rattle.szg_probe_laws.proofs.Counter.{first_class}
use Rattle.szg_probe_laws.proofs.first_keeps_class.Goals as goal

pub returns : goal.returns
returns c = λ classes numbers counter p first rest right exact position below are. first_class classes numbers counter p position right exact below first rest are
