use Rattle.szg_count.proofs.Rows.{pawn_values as law}
use Rattle.szg_count.proofs.laws.pawn_values.Goals as goal

pub returns : goal.returns
returns c = law
