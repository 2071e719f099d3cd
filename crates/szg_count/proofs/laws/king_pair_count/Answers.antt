use Rattle.szg_count.proofs.Rows.{king_pairs_length as law}
use Rattle.szg_count.proofs.laws.king_pair_count.Goals as goal

pub returns : goal.returns
returns c = law
