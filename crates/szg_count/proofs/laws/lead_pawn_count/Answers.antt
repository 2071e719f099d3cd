use Rattle.szg_count.proofs.Counting.{lead_pawn_count as law}
use Rattle.szg_count.proofs.laws.lead_pawn_count.Goals as goal

pub returns : goal.returns
returns c = law
