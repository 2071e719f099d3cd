use Rattle.szg_pairs.proofs.Accepting.{one_fault_at_most}
use Rattle.szg_pairs.proofs.laws.one_fault.Goals as goal

pub returns : goal.returns
returns c = one_fault_at_most
