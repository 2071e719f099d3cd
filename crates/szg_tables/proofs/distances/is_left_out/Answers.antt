use Rattle.std.proofs.Common.{◌≤◌, List, length, sym, ap, ◌∙◌, subst, arith}
use Rattle.szg_values.specs.Men.{is_color}
use Rattle.szg_values.specs.Placement.{PlacedMan}
use Rattle.szg_values.specs.declared.Color.TheVariants.{Black}
use Rattle.szg_verify.specs.Verified.{has_equal_sides}
use Rattle.szg_tables.proofs.Stored.{left_out_is}
use Rattle.szg_tables.proofs.distances.is_left_out.Goals as goal

pub returns-then-is_black : goal.returns-then-is_black
returns-then-is_black c =
    let men = c.args.position.now.placed_men in
    let mover = c.args.position.now.mover in
    left_out_is (length men) (is_color Black mover) (has_equal_sides men) c.has_equal_sides.result
    (subst (λ (xs : List PlacedMan). 3 ≤ length xs) c.men.ensures.men (omega arith))
    (ap (is_color Black) (sym c.mover.ensures) ∙ sym c.is_black.ensures ∙ c.if-is_black.true)
    (c.has_equal_sides.ensures ∙ ap has_equal_sides c.men-then-is_black.ensures.men)
