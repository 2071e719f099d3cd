use Rattle.szg_count.proofs.Radix.{digits_again as law}
use Rattle.szg_count.proofs.laws.decode_encoded.Goals as goal

pub returns : goal.returns
returns c = law
