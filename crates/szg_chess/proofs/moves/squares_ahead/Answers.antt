use Rattle.std.proofs.Common.{sym, ◌∙◌, ap, ℕ}
use Rattle.std.specs.Prelude.{◌==◌}
use Rattle.szg_values.specs.Men.{file_of}
use Rattle.szg_chess.specs.Squares.{is_in}
use Rattle.szg_chess.proofs.Reach.{unreached, off_file}
use Rattle.szg_chess.proofs.moves.squares_ahead.Goals as goal

pub returns-then-is_man : goal.returns-then-is_man
returns-then-is_man c = λ square inside no men. off_file c.args.man.now square (sym c.is_man.ensures ∙ c.if-is_man.true) (ap (λ (n : ℕ). file_of square == file_of n) (sym c.number.ensures.same) ∙ sym (c.squares_of_file.ensures square inside) ∙ no) men

pub returns-else-is_man : goal.returns-else-is_man
returns-else-is_man c = λ square inside no men. unreached c.args.man.now square inside (sym c.is_man.ensures ∙ c.if-is_man.false) (ap (λ (n : ℕ). is_in n square) (sym c.reach_of.ensures) ∙ no) men
