use Rattle.szg_place.proofs.Symmetries.ImageBoards.{law_image_spot as law}
use Rattle.szg_place.proofs.laws.spot_of_image.Goals as goal

pub returns : goal.returns
returns c = law
