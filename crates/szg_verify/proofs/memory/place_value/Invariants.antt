use Rattle.std.proofs.Common.{◌≡◌, ◌-◌, drop, length}
use Rattle.szg_verify.specs.Memory.{place_value}
use Rattle.szg_verify.proofs.memory.place_value.Given as goal

abbrev pub invariant-loop-step : goal.invariant-loop-step
invariant-loop-step l = l.value ≡ place_value l.square (drop (length l.men - l.step) l.men)
