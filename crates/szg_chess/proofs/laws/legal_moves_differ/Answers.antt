use Rattle.szg_chess.proofs.Different.{different_law}
use Rattle.szg_chess.proofs.laws.legal_moves_differ.Goals as goal

pub returns : goal.returns
returns c = different_law
