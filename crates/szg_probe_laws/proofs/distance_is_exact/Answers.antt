use Rattle.szg_probe_laws.proofs.Chosen.{probed_exact}
use Rattle.szg_probe_laws.proofs.distance_is_exact.Goals as goal

pub returns : goal.returns
returns c = λ classes numbers p k d right exact. probed_exact classes right numbers exact p k d
