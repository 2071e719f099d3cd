use Rattle.szg_verify.proofs.Stored.{closed_by_count}
use Rattle.szg_verify.proofs.laws.closed_by_count.Goals as goal

pub returns : goal.returns
returns c = closed_by_count
