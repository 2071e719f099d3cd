use Rattle.std.proofs.Common.{◌∙◌, ap, ℕ}
use Rattle.szg_chess.specs.Attacks.{is_occupied}
use Rattle.szg_chess.specs.Squares.{is_in}
use Rattle.szg_chess.proofs.Sets.{in_set}
use Rattle.szg_chess.proofs.Position.is_occupied.Goals as goal

pub returns : goal.returns
returns c = c.is_in.ensures ∙ ap (λ (n : ℕ). is_in n c.args.square) c.occupied.ensures.squares ∙ in_set (is_occupied c.args.self.now.placed_men) c.args.square c.requires
