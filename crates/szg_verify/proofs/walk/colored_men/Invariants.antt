use Rattle.std.proofs.Common.{◌≡◌, take}
use Rattle.std.specs.Prelude.{map}
use Rattle.szg_verify.specs.Walk.{colored_man}
use Rattle.szg_verify.proofs.walk.colored_men.Given as goal

abbrev pub invariant-loop-code : goal.invariant-loop-code
invariant-loop-code l = l.men.items ≡ map colored_man (take l.code-index l.code-items)
