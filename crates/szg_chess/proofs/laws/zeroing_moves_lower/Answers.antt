use Rattle.szg_chess.proofs.Zeroing.{zeroing_law}
use Rattle.szg_chess.proofs.laws.zeroing_moves_lower.Goals as goal

pub returns : goal.returns
returns c = zeroing_law
