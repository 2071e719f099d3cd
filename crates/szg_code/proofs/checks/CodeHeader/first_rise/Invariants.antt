use Rattle.std.proofs.Common.{ℕ, ◌<◌}
use Rattle.szg_code.specs.Acceptance.{IsOrderedAt}
use Rattle.szg_code.specs.CodeHeader.{code_of}
use Rattle.szg_code.proofs.checks.CodeHeader.first_rise.Given as goal

-- no item so far is above the one before it
abbrev pub invariant-loop-j : goal.invariant-loop-j
invariant-loop-j l = (k : ℕ) → k < l.j → IsOrderedAt (code_of l.self) k
