use Rattle.szg_verify.proofs.Certificate.{entry_true}
use Rattle.szg_verify.proofs.laws.entries_are_true.Goals as goal

pub returns : goal.returns
returns c = λ tables covers p e ok position covered is. entry_true tables covers ok p e position covered is
