use Rattle.szg_verify.proofs.Images.{checked_by_images}
use Rattle.szg_verify.proofs.laws.checked_by_images.Goals as goal

pub returns : goal.returns
returns c = checked_by_images
