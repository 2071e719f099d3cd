use Rattle.szg_probe_laws.proofs.Signs.{sign_true}
use Rattle.szg_probe_laws.proofs.sign_is_true.Goals as goal

pub returns : goal.returns
returns c = sign_true
