use Rattle.szg_chess.proofs.KeptMen.{kinds_law}
use Rattle.szg_chess.proofs.laws.other_moves_keep_men.Goals as goal

pub returns : goal.returns
returns c = kinds_law
