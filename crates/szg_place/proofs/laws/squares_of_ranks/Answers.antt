use Rattle.szg_place.proofs.Ranks.Ranking.{squares_again as law}
use Rattle.szg_place.proofs.laws.squares_of_ranks.Goals as goal

pub returns : goal.returns
returns c = law
