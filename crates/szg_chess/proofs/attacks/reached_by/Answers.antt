use Rattle.std.proofs.Common.{◌≤◌, ◌∙◌, ◌&&◌, ℕ, length, ap, arith}
use Rattle.std.specs.List.{list_any}
use Rattle.std.proofs.lemmas.List.{take_all}
use Rattle.std.proofs.lemmas.Nat.{and_le_l}
use Rattle.szg_values.specs.Men.{other_color}
use Rattle.szg_chess.proofs.Enemies.{in_none, in_two, reaches, stands, with_set}
use Rattle.szg_chess.proofs.Sets.{from_squares}
use Rattle.szg_chess.proofs.attacks.reached_by.Goals as goal

pub loop-man-init : goal.loop-man-init
loop-man-init c = (λ q h. in_none q, λ q h. in_none q)

pub loop-man-preserved : goal.loop-man-preserved
loop-man-preserved c =
    let color = c.args.color in let men = c.args.men.now in let i = c.loop-man.man-index in let s = c.man-item.result in (
      λ q h. with_set (reaches color q) men i s c.loop-man.reached c.reach_by-reached.result q c.loop-man-test.true c.man-item.is (c.reach_by-reached.ensures q h) (c.loop-man.invariant.0 q h),
      λ q h. with_set (stands (other_color color) q) men i s c.loop-man.others c.square_of_other-others.result q c.loop-man-test.true c.man-item.is (c.square_of_other-others.ensures q h) (c.loop-man.invariant.1 q h),
    )

pub returns : goal.returns
returns c =
    let color = c.args.color in let men = c.args.men.now in let reached = c.loop-man.reached in let others = c.loop-man.others in
    let whole : length men ≤ c.loop-man.man-index = omega arith in
    let all = take_all c.loop-man.man-index men whole in
    let less = and_le_l reached others in
    from_squares (λ (q : ℕ). list_any (reaches color q) men && list_any (stands (other_color color) q) men) _ (omega (arith, less))
    (λ q h. in_two reached others q (list_any (reaches color q) men) (list_any (stands (other_color color) q) men)
    (c.loop-man.invariant.0 q h ∙ ap (list_any (reaches color q)) all) (c.loop-man.invariant.1 q h ∙ ap (list_any (stands (other_color color) q)) all))
