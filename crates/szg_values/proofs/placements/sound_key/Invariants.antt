use Rattle.szg_values.proofs.Stood.{AreStood}
use Rattle.szg_values.proofs.placements.sound_key.Given as goal

abbrev pub invariant-loop-man : goal.invariant-loop-man
invariant-loop-man l = AreStood l.men l.man-index l.taken l.key
