use Rattle.std.proofs.Common.{◌≡◌, ◌++◌, take}
use Rattle.std.specs.Prelude.{map}
use Rattle.szg_values.specs.Men.{letter_of}
use Rattle.szg_values.proofs.materials.push_letters.Given as goal

abbrev pub invariant-loop-man : goal.invariant-loop-man
invariant-loop-man l = l.name.bytes ≡ l.initial.name.bytes ++ map letter_of (take l.man-index l.men)
