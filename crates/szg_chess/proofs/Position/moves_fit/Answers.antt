use Rattle.szg_chess.proofs.Counted.{few_moves}
use Rattle.szg_chess.proofs.Facts.{faultless}
use Rattle.szg_chess.proofs.Position.moves_fit.Goals as goal

pub returns : goal.returns
returns c = let known = c.men.ensures.position in few_moves c.args.self.now (faultless c.args.self.now known.no_fault) known.squares.men
