use Rattle.szg_count.proofs.Rows.{triples_length as law}
use Rattle.szg_count.proofs.laws.triple_count.Goals as goal

pub returns : goal.returns
returns c = law
