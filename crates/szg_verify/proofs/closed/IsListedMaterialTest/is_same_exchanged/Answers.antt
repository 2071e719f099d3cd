use Rattle.szg_verify.proofs.Changes.{listed_crossed}
use Rattle.szg_verify.proofs.closed.IsListedMaterialTest.is_same_exchanged.Goals as goal

pub returns : goal.returns
returns c = λ a b. listed_crossed c.args.self.now.materials.now a b
