use Rattle.szg_chess.proofs.Rows.{of_file}
use Rattle.szg_chess.proofs.moves.squares_of_file.Goals as goal

pub returns : goal.returns
returns c = λ square inside. of_file c.args.file square c.requires inside
