use Rattle.std.proofs.Common.{◌≡◌, ◌+◌, drop}
use Rattle.szg_count.specs.Steps.{leading}
use Rattle.szg_count.proofs.cut.leading.Given as goal

abbrev pub invariant-loop-i : goal.invariant-loop-i
invariant-loop-i l = leading l.man l.men ≡ l.i + leading l.man (drop l.i l.men)
