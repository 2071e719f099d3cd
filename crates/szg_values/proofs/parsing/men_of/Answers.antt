use Rattle.std.proofs.Common.{arith}
use Rattle.std.proofs.lemmas.Grind.{common_steps}
use Rattle.std.proofs.lemmas.List.Elements.{filter_map-append}
use Rattle.szg_values.proofs.parsing.men_of.Goals as goal
use Rattle.szg_values.proofs.parsing.men_of.Goals.{in-Some, in_default}

pub loop-letter-preserved : goal.loop-letter-preserved
loop-letter-preserved c = elim c.match-of_letter.branch [
  | in-Some w ↦ (grind (arith, common_steps, filter_map-append), grind (arith, common_steps))
  | in_default w ↦ (grind (arith, common_steps, filter_map-append), grind (arith, common_steps))
]
