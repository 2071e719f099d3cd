use Rattle.szg_count.proofs.Rearranged.{men_of_order as law}
use Rattle.szg_count.proofs.laws.men_of_order.Goals as goal

pub returns : goal.returns
returns c = law
