use Rattle.std.proofs.Common.{rules, ◌≡◌, ◌∙◌, ap, None}
use Rattle.szg_values.specs.Placement.{placement_fault}
use Rattle.szg_chess.proofs.Facts.{faultless, placed}
use Rattle.szg_chess.proofs.Position.placement.Goals as goal

pub returns-in-Err-clause-placed : goal.returns-in-Err-clause-placed
returns-in-Err-clause-placed c = λ three.
    let known = faultless c.args.self.now c.men-men.ensures.position.no_fault in
    let none : placement_fault c.men-men.result.now ≡ None = ap placement_fault c.men-men.ensures.men ∙ placed c.args.self.now known three in
    let wrong = c.in-Err.ensures.accepted (rw none (search rules)) in absurd cc
