use Rattle.szg_count.proofs.Formulas.{other_pawn_ways as law}
use Rattle.szg_count.proofs.laws.other_pawn_ways.Goals as goal

pub returns : goal.returns
returns c = law
