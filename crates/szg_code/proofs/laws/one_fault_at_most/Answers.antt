use Rattle.szg_code.proofs.Accepting.{accepted_has_no_fault, one_fault_at_most}
use Rattle.szg_code.proofs.laws.one_fault_at_most.Goals as goal

pub returns : goal.returns
returns c = λ code. (accepted_has_no_fault code, one_fault_at_most code)
