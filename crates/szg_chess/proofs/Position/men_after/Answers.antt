use Rattle.std.proofs.Common.{◌≡◌, ◌∙◌, ℕ, map, ap, sym, false}
use Rattle.szg_chess.specs.Attacks.{is_occupied}
use Rattle.szg_chess.specs.Position.{Position}
use Rattle.szg_chess.specs.Moves.{man_after, men_after}
use Rattle.szg_chess.proofs.Members.{all_off}
use Rattle.szg_chess.proofs.AfterMen.{moved}
use Rattle.szg_chess.proofs.Position.men_after.Goals as goal

pub returns-then-is_occupied-clause-men : goal.returns-then-is_occupied-clause-men
unfolding men_after
returns-then-is_occupied-clause-men c = c.men_left.ensures ∙ ap (λ (k : ℕ). moved c.args.m.now k c.args.self.now.placed_men) c.requires.captured

pub returns-else-is_occupied-clause-men : goal.returns-else-is_occupied-clause-men
unfolding men_after
returns-else-is_occupied-clause-men c =
    let men = c.args.self.now.placed_men in let m = c.args.m.now in
    let free : is_occupied men c.args.captured ≡ false = sym c.is_occupied.ensures ∙ c.if-is_occupied.false in
    c.moved.ensures ∙ ap (λ (p : Position). map (man_after m) p.placed_men) c.self.view_is ∙ ap (map (man_after m)) (sym (all_off c.args.captured men free)) ∙ ap (λ (k : ℕ). moved m k men) c.requires.captured
