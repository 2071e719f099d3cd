use Rattle.std.proofs.Common.{arith}
use Rattle.szg_chess.proofs.Counted.{few_moves}
use Rattle.szg_chess.proofs.Facts.{faultless}
use Rattle.szg_chess.proofs.ZeroingMoves.{few_pawn_moves, zeroing_moves_law}
use Rattle.szg_chess.proofs.Position.zeroing_moves_fit.Goals as goal

pub returns-clause-few : goal.returns-clause-few
returns-clause-few c =
    let p = c.args.self.now in let known = c.men.ensures.position in
    let few = few_moves p (faultless p known.no_fault) known.squares.men in let fewer = few_pawn_moves p in omega (arith, few, fewer)

pub returns-clause-all : goal.returns-clause-all
returns-clause-all c = zeroing_moves_law c.args.self.now c.men.ensures.position
