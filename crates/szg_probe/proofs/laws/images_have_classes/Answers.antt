use Rattle.szg_probe.proofs.Images.{image_class}
use Rattle.szg_probe.proofs.laws.images_have_classes.Goals as goal

pub returns : goal.returns
returns c = image_class
