use Rattle.szg_probe.proofs.Search.{probed_by_captures}
use Rattle.szg_probe.proofs.laws.probed_by_captures.Goals as goal

pub returns : goal.returns
returns c = probed_by_captures
