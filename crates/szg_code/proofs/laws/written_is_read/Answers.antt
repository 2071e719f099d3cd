use Rattle.szg_code.proofs.ReadBack.{written_is_read}
use Rattle.szg_code.proofs.laws.written_is_read.Goals as goal

pub returns : goal.returns
returns c = written_is_read
