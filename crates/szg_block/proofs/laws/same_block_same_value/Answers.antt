use Rattle.szg_block.proofs.Agreeing.{same_result}
use Rattle.szg_block.proofs.laws.same_block_same_value.Goals as goal

pub returns : goal.returns
returns c = same_result
