use Rattle.szg_chess.proofs.Relation.{moves_law}
use Rattle.szg_chess.proofs.laws.legal_moves_are_moves.Goals as goal

pub returns : goal.returns
returns c = moves_law
