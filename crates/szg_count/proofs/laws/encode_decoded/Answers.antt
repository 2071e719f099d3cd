use Rattle.szg_count.proofs.Radix.{index_again as law}
use Rattle.szg_count.proofs.laws.encode_decoded.Goals as goal

pub returns : goal.returns
returns c = law
