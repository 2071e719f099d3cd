use Rattle.szg_chess.proofs.Zeroing.{quiet_law}
use Rattle.szg_chess.proofs.laws.other_moves_keep.Goals as goal

pub returns : goal.returns
returns c = quiet_law
