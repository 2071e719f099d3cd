use Rattle.szg_chess.proofs.Images.Positions.{image_of_image}
use Rattle.szg_chess.proofs.laws.images_go_back.Goals as goal

pub returns : goal.returns
returns c = image_of_image
