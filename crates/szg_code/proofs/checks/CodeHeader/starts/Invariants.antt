use Rattle.std.proofs.Common.{ℕ, ◌≡◌, ◌<◌, length, get_or}
use Rattle.szg_code.specs.CodeHeader.{code_of}
use Rattle.szg_code.specs.Least.{IsStart}
use Rattle.szg_code.proofs.checks.CodeHeader.starts.Given as goal

abbrev pub invariant-loop-first : goal.invariant-loop-first
invariant-loop-first l = record {
  placed : length l.starts ≡ 256;
  done : (k : ℕ) → k < l.first → IsStart (code_of l.self) k (get_or l.starts k 0);
}
