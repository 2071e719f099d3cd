use Rattle.szg_chess.proofs.Sets.{cleared}
use Rattle.szg_chess.proofs.moves.squares_without.Goals as goal

pub returns : goal.returns
returns c = λ other h. cleared c.args.squares c.args.square other c.requires h
