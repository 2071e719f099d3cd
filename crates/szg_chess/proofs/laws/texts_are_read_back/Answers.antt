use Rattle.szg_chess.proofs.ReadBack.{read_back}
use Rattle.szg_chess.proofs.laws.texts_are_read_back.Goals as goal

pub returns : goal.returns
returns c = read_back
