use Rattle.szg_chess.proofs.Captured.{captures_law}
use Rattle.szg_chess.proofs.laws.captures_are_moves.Goals as goal

pub returns : goal.returns
returns c = captures_law
