use Rattle.szg_count.proofs.Formulas.{lead_pawn_table as law}
use Rattle.szg_count.proofs.laws.lead_pawn_table.Goals as goal

pub returns : goal.returns
returns c = law
