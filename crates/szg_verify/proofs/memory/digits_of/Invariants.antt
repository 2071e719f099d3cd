use Rattle.std.proofs.Common.{◌≡◌, ◌-◌, drop, length}
use Rattle.szg_verify.specs.Memory.{digits_of}
use Rattle.szg_verify.proofs.memory.digits_of.Given as goal

abbrev pub invariant-loop-step : goal.invariant-loop-step
invariant-loop-step l = l.digits ≡ digits_of (drop (length l.men - l.step) l.men)
