use Rattle.std.proofs.Common.{refl}
use Rattle.szg_verify.proofs.laws.material_examples.Goals as goal

pub returns : goal.returns
returns c = record { kings = refl; three = refl; promotion = refl; capture = refl; exchanged = refl; another = refl }
