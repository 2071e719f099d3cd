use Rattle.std.proofs.Common.{rules, ◌==◌, ◌∙◌, ap, length, take, filter, not, arith}
use Rattle.std.proofs.lemmas.List.{length-map, length-take-le}
use Rattle.szg_values.specs.Placement.{PlacedMan}
use Rattle.szg_chess.specs.Moves.{man_after}
use Rattle.szg_chess.proofs.Pushing.{length-filter-le}
use Rattle.szg_chess.proofs.Position.men_left.Goals as goal

pub push-requires : goal.push-requires
push-requires c =
    let so_far = take c.loop-man.man-index c.men-man-items.result.now in
    let kept = filter (λ (s : PlacedMan). not (s.2 == c.args.captured)) so_far in
    let size = ap length c.loop-man.invariant ∙ length-map kept (man_after c.args.m.now) in
    let few = length-filter-le (λ (s : PlacedMan). not (s.2 == c.args.captured)) so_far in
    let count = length-take-le c.loop-man.man-index c.men-man-items.result.now (omega arith) in
    (search rules, omega (arith, size, few, count))
