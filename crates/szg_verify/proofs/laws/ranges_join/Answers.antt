use Rattle.szg_verify.proofs.Whole.{ranges_join}
use Rattle.szg_verify.proofs.laws.ranges_join.Goals as goal

pub returns : goal.returns
returns c = ranges_join
