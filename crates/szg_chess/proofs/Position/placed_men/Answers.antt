use Rattle.std.proofs.Common.{rules, ◌∙◌, ◌<◌, ap, sym, subst, length, List}
use Rattle.std.specs.Prelude.{Some}
use Rattle.szg_values.specs.Placement.{AreStanding, Board, PlacedMan, men_key, placement_fault}
use Rattle.szg_values.specs.declared.Color.{Color}
use Rattle.szg_chess.proofs.Facts.{faultless, no_placement, placed, standing}
use Rattle.szg_chess.proofs.Position.placed_men.Goals as goal

pub of_standing-requires-clause-standing : goal.of_standing-requires-clause-standing
of_standing-requires-clause-standing c = subst AreStanding (sym c.men.ensures.men) (standing c.args.self.now c.men.ensures.position)

pub of_standing-requires-clause-key : goal.of_standing-requires-clause-key
of_standing-requires-clause-key c = c.key.ensures ∙ ap men_key (sym c.men.ensures.men)

pub returns-clause-placed : goal.returns-clause-placed
returns-clause-placed c = λ three.
    let p = c.args.self.now in
    let none = ap placement_fault c.men.ensures.men ∙ placed p (faultless p c.men.ensures.position.no_fault) three in
    let board : List PlacedMan → Color → Board = λ men mover. record { placed_men = men; mover = mover } in
    c.of_standing.ensures.accepted (rw none (search rules))
    ∙ ap (λ (men : List PlacedMan). Some (board men c.mover.result)) c.men.ensures.men ∙ ap (λ (mover : Color). Some (board p.placed_men mover)) c.mover.ensures

pub returns-clause-bare : goal.returns-clause-bare
returns-clause-bare c = λ few.
    let men = c.men.result.now in
    c.of_standing.ensures.refused (no_placement men (subst (λ (ms : List PlacedMan). length ms < 3) (sym c.men.ensures.men) few))
