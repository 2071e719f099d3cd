use Rattle.std.proofs.Common.{ℕ, ◌≡◌, ◌+◌, ◌-◌, ◌<◌, ◌≤◌, length, get_or}
use Rattle.szg_code.specs.Canonical.{base}
use Rattle.szg_code.specs.Acceptance.{HasRoomAt}
use Rattle.szg_code.specs.CodeHeader.{code_of}
use Rattle.szg_code.proofs.checks.CodeHeader.bases.Given as goal

-- the list holds the bases of the `below` greatest lengths
abbrev pub invariant-loop-below : goal.invariant-loop-below
invariant-loop-below l = record {
  placed : length l.bases ≡ 32;
  bases : (k : ℕ) → l.count ≤ k + l.below → k < l.count → get_or l.bases k 0 ≡ base (code_of l.self) (l.self.min + k);
  small : base (code_of l.self) (l.self.min + (l.count - l.below)) ≤ 65535;
  rooms : (k : ℕ) → l.self.max < k + l.below → HasRoomAt (code_of l.self) k;
}
