use Rattle.std.proofs.Common.{ℕ, ◌≡◌, ◌^◌, ◌<◌, ◌≤◌, length, get_or}
use Rattle.szg_code.specs.Canonical.{lowest_of}
use Rattle.szg_code.specs.Least.{shifted_base, zero_symbol}
use Rattle.szg_code.specs.CodeHeader.{code_of}
use Rattle.szg_code.proofs.checks.CodeHeader.by_length.Given as goal

-- the items of the lengths before this one are computed
abbrev pub invariant-loop-length : goal.invariant-loop-length
invariant-loop-length l = record {
  shifted_placed : length l.shifted ≡ 34;
  shifted : (k : ℕ) → l.self.min ≤ k → k < l.length → get_or l.shifted k 0 ≡ shifted_base (code_of l.self) 64 k;
  symbols_placed : length l.symbols ≡ 33;
  symbols : (k : ℕ) → l.self.min ≤ k → k < l.length → (lowest_of (code_of l.self) k < 2 ^ 16) × (get_or l.symbols k 0 ≡ zero_symbol (code_of l.self) k);
}
