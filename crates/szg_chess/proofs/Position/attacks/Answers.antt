use Rattle.std.proofs.Common.{◌∙◌, ap, ℕ, arith}
use Rattle.szg_chess.specs.Squares.{attacks_past}
use Rattle.szg_chess.proofs.Reach.{attacks_by_sets}
use Rattle.szg_chess.proofs.Position.attacks.Goals as goal

pub returns : goal.returns
returns c =
    let men = c.args.self.now.placed_men in
    c.attacks_past.ensures ∙ ap (λ (n : ℕ). attacks_past n c.args.man.now c.args.to) c.occupied.ensures.squares ∙ attacks_by_sets men c.occupied.ensures.on_board c.args.man.now c.args.to (omega arith)
