use Rattle.std.proofs.Common.{sym, ◌∙◌}
use Rattle.szg_verify.proofs.Broken.{sooner}
use Rattle.szg_verify.proofs.conditions.first_broken.Goals as goal

pub returns-else-is_still : goal.returns-else-is_still
returns-else-is_still c =
    sooner c.args.limit c.args.entry c.args.in_check c.args.successors.now (sym c.has_none.ensures ∙ c.if-has_none.false) c.requires.refused (sym c.is_out_of_range.ensures ∙ c.if-is_out_of_range.false)
    (sym c.has_better_move.ensures ∙ c.if-has_better_move.false) (sym c.has_no_move_that_keeps.ensures ∙ c.if-has_no_move_that_keeps.false) (sym c.is_still.ensures ∙ c.if-is_still.false)
