use Rattle.szg_verify.proofs.TwoKings.{kings_checked}
use Rattle.szg_verify.proofs.laws.kings_are_checked.Goals as goal

pub returns : goal.returns
returns c = kings_checked
