use Rattle.szg_chess.proofs.Images.Positions.{image_is_image}
use Rattle.szg_chess.proofs.laws.images_are_positions.Goals as goal

pub returns : goal.returns
returns c = image_is_image
