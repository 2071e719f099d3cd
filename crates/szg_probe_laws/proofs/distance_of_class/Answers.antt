use Rattle.szg_probe_laws.proofs.Within.{class_distance}
use Rattle.szg_probe_laws.proofs.distance_of_class.Goals as goal

pub returns : goal.returns
returns g c = λ game limit p k n some. class_distance game limit some k p n
