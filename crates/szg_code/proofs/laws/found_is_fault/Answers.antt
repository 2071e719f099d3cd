use Rattle.szg_code.proofs.Finding.{found_is_fault}
use Rattle.szg_code.proofs.laws.found_is_fault.Goals as goal

pub returns : goal.returns
returns c = found_is_fault
