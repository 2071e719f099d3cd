use Rattle.szg_verify.proofs.Stored.{stored_true}
use Rattle.szg_verify.proofs.laws.stored_are_true.Goals as goal

pub returns : goal.returns
returns c = λ tables covers ok. stored_true tables covers ok
