use Rattle.std.proofs.Common.{◌≡◌, ◌+◌, ◌++◌, take}
use Rattle.std.specs.Prelude.{map}
use Rattle.szg_values.specs.Men.{code_of}
use Rattle.szg_values.proofs.materials.push_codes.Given as goal

abbrev pub invariant-loop-man : goal.invariant-loop-man
invariant-loop-man l = l.codes.items ≡ l.initial.codes.items ++ map (λ man. l.side + code_of man) (take l.man-index l.men)
