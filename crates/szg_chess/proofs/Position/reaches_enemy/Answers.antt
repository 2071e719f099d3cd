use Rattle.std.proofs.Common.{◌∙◌, sym}
use Rattle.szg_values.specs.Men.{other_color}
use Rattle.szg_chess.proofs.Enemies.{first_reached, none_captured}
use Rattle.szg_chess.proofs.Position.reaches_enemy.Goals as goal

pub returns-clause-reached : goal.returns-clause-reached
returns-clause-reached c =
    let p = c.args.self.now in
    first_reached p.mover p.placed_men c.args.man.now c.reach_of.result c.reached.result c.next_in.result c.reached.ensures.on_board c.requires.standing c.requires.own c.reach_of.ensures c.reached.ensures.reached
    c.next_in.ensures.found c.next_in.ensures.first

pub returns-clause-none : goal.returns-clause-none
returns-clause-none c = λ no.
    let p = c.args.self.now in
    none_captured (other_color p.mover) p.placed_men c.args.man.now (sym (returns-clause-reached c) ∙ no)
