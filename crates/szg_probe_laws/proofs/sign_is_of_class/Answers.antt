use Rattle.szg_probe_laws.proofs.Signs.{sign_of_class}
use Rattle.szg_probe_laws.proofs.sign_is_of_class.Goals as goal

pub returns : goal.returns
returns c = sign_of_class
