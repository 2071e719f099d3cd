use Rattle.szg_chess.proofs.Captured.{captured_law}
use Rattle.szg_chess.proofs.laws.captures_take_one.Goals as goal

pub returns : goal.returns
returns c = captured_law
