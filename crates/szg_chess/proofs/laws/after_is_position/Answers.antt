use Rattle.szg_chess.proofs.AfterMove.{after_is_position}
use Rattle.szg_chess.proofs.laws.after_is_position.Goals as goal

pub returns : goal.returns
returns c = after_is_position
