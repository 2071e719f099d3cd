use Rattle.szg_c_positions.proofs.TooManyMen.{refused_board}
use Rattle.szg_c_positions.proofs.men.placement_or_fault.Goals as goal

pub returns-in-Err : goal.returns-in-Err
returns-in-Err c = refused_board c.args.men.now c.args.mover c.in-Err.status c.in-Err.ensures.fault
