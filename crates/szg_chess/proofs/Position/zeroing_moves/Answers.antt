use Rattle.std.proofs.Common.{rules, ◌++◌, ◌∙◌, List, ap, sym, length, filter, arith}
use Rattle.szg_chess.specs.declared.Move.{Move}
use Rattle.szg_chess.specs.Moves.{is_legal, captures_of, legal_captures, pawn_moves_of}
use Rattle.szg_chess.proofs.Pushing.{length-filter-le}
use Rattle.szg_chess.proofs.Position.zeroing_moves.Goals as goal

pub push_captures-requires : goal.push_captures-requires
push_captures-requires c = (search rules, let size = ap length c.new-moves.ensures in let few = c.zeroing_moves_fit.ensures.few in omega (arith, size, few))

pub push_pawn_moves-requires : goal.push_pawn_moves-requires
push_pawn_moves-requires c =
    let p = c.args.self.now in
    let fewer = length-filter-le (is_legal p) (captures_of p) in
    let size = ap length (c.push_captures.ensures ∙ ap (λ (ys : List Move). ys ++ legal_captures p) c.new-moves.ensures) in
    let few = c.zeroing_moves_fit.ensures.few in (search rules, omega (arith, fewer, size, few))

pub returns : goal.returns
returns c =
    let p = c.args.self.now in
    c.push_pawn_moves.ensures
    ∙ ap (λ (ys : List Move). ys ++ filter (is_legal p) (pawn_moves_of p)) (c.push_captures.ensures ∙ ap (λ (ys : List Move). ys ++ legal_captures p) c.new-moves.ensures)
    ∙ sym c.zeroing_moves_fit.ensures.all
