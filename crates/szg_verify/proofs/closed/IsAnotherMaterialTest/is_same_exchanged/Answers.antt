use Rattle.std.proofs.Common.{ap}
use Rattle.std.specs.Prelude.{not}
use Rattle.szg_verify.proofs.Changes.{same_crossed}
use Rattle.szg_verify.proofs.closed.IsAnotherMaterialTest.is_same_exchanged.Goals as goal

pub returns : goal.returns
returns c = λ a b. ap not (same_crossed a b c.args.self.now.material.now)
