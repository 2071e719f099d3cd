use Rattle.szg_code.proofs.ReadBack.{written_list_is_spelled}
use Rattle.szg_code.proofs.laws.written_list_is_spelled.Goals as goal

pub returns : goal.returns
returns c = written_list_is_spelled
