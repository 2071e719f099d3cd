use Rattle.szg_chess.proofs.Counted.{few_captures}
use Rattle.szg_chess.proofs.Captured.{captures_law, captures_legal}
use Rattle.szg_chess.proofs.Facts.{faultless}
use Rattle.szg_chess.proofs.Position.captures_fit.Goals as goal

pub returns-clause-few : goal.returns-clause-few
returns-clause-few c = let known = c.men.ensures.position in few_captures c.args.self.now (faultless c.args.self.now known.no_fault) known.squares.men

pub returns-clause-all : goal.returns-clause-all
returns-clause-all c = captures_law c.args.self.now c.men.ensures.position

pub returns-clause-legal : goal.returns-clause-legal
returns-clause-legal c = captures_legal c.args.self.now
