use Rattle.szg_verify.proofs.Whole.{shards_are_whole}
use Rattle.szg_verify.proofs.laws.shards_are_whole.Goals as goal

pub returns : goal.returns
returns c = shards_are_whole
