use Rattle.szg_count.proofs.Free.{positions_order_groups as law}
use Rattle.szg_count.proofs.laws.positions_order_groups.Goals as goal

pub returns : goal.returns
returns c = law
