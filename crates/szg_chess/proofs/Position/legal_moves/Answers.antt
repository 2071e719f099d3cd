use Rattle.std.proofs.Common.{rules, ◌++◌, ◌∙◌, ap, length, filter, arith}
use Rattle.szg_chess.specs.Moves.{is_legal, captures_of}
use Rattle.szg_chess.proofs.Pushing.{length-filter-le}
use Rattle.szg_chess.proofs.Position.legal_moves.Goals as goal

pub push_captures-requires : goal.push_captures-requires
push_captures-requires c = (search rules, let size = ap length c.new-moves.ensures in omega (arith, size, c.moves_fit.ensures))

pub push_quiet_moves-requires : goal.push_quiet_moves-requires
push_quiet_moves-requires c =
    let few = length-filter-le (is_legal c.args.self.now) (captures_of c.args.self.now) in
    let size = ap length (c.push_captures.ensures ∙ ap (λ ys. ys ++ filter (is_legal c.args.self.now) (captures_of c.args.self.now)) c.new-moves.ensures) in
    (search rules, omega (arith, few, size, c.moves_fit.ensures))
