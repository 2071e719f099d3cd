use Rattle.szg_place.proofs.Ranks.KingRanks.{kings_found}
use Rattle.szg_place.proofs.kings.unrank_kings.Goals as goal

pub returns : goal.returns
returns c = kings_found c.args.number c.requires
