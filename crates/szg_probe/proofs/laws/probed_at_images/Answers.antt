use Rattle.szg_probe.proofs.Images.{probed_image}
use Rattle.szg_probe.proofs.laws.probed_at_images.Goals as goal

pub returns : goal.returns
returns c = λ tables f p q symmetric. probed_image tables symmetric f p q
