use Rattle.szg_pairs.proofs.Accepting.{accepted_has_no_fault}
use Rattle.szg_pairs.proofs.laws.accepted_has_no_fault.Goals as goal

pub returns : goal.returns
returns c = accepted_has_no_fault
