use Rattle.std.proofs.Common.{ℕ, ◌-◌, ◌<◌, ◌≤◌}
use Rattle.szg_code.specs.CodeHeader.{code_of}
use Rattle.szg_code.specs.Least.{shifted_base}
use Rattle.szg_code.proofs.checks.CodeHeader.reached_length_from.Given as goal

-- the window is below the shifted base of each shorter length
abbrev pub invariant-loop-length : goal.invariant-loop-length
invariant-loop-length l = record {
  long : l.self.min ≤ l.length;
  short : l.length ≤ l.self.max;
  before : (k : ℕ) → l.self.min ≤ k → k < l.length → l.window < shifted_base (code_of l.self) 64 k;
}

abbrev pub decreases-loop-length : goal.decreases-loop-length
decreases-loop-length l = l.self.max - l.length
