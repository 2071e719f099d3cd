use Rattle.szg_chess.proofs.Images.Moves.{same_check, move_image_of}
use Rattle.szg_chess.proofs.laws.images_have_moves.Goals as goal

pub returns : goal.returns
returns c = λ f p q position is. (same_check f p q position is, move_image_of f p q position is)
