use Rattle.szg_probe.proofs.Kings.{kings_draw}
use Rattle.szg_probe.proofs.laws.kings_draw.Goals as goal

pub returns : goal.returns
returns c = λ p position two. kings_draw p (record { position = position; two = two })
