use Rattle.szg_place.proofs.Ranks.Ranking.{ranks_again as law}
use Rattle.szg_place.proofs.laws.ranks_of_index.Goals as goal

pub returns : goal.returns
returns c = law
