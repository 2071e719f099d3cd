use Rattle.szg_chess.proofs.Enemies.{first_reached_by}
use Rattle.szg_chess.proofs.Position.reaches.Goals as goal

pub returns : goal.returns
returns c =
    let p = c.args.self.now in
    first_reached_by p.mover p.placed_men c.reached.result c.next_in.result c.reached.ensures.on_board c.reached.ensures.reached c.next_in.ensures.found c.next_in.ensures.first
