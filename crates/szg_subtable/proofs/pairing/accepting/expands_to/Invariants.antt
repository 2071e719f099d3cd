use Rattle.std.proofs.Common.{ℕ, ◌≡◌, ◌≤◌, None, length, take, get_or}
use Rattle.std.specs.Prelude.{IfSome}
use Rattle.szg_subtable.specs.Building.{IsSymbolAt}
use Rattle.szg_subtable.specs.Pairing.{values_of}
use Rattle.szg_subtable.proofs.pairing.accepting.expands_to.Given as goal

-- the values of the symbols so far are the first of `values`, and at each stored offset the values of its symbol occur
abbrev pub invariant-loop-symbol : goal.invariant-loop-symbol
invariant-loop-symbol l = record {
  inside : l.start ≤ length l.values;
  same : values_of l.dict (take l.symbol-index l.symbols) ≡ take l.start l.values;
  count : length l.offsets ≡ length l.dict;
  known : (s : ℕ) → IfSome (get_or l.offsets s None) (IsSymbolAt l.dict l.values s);
}
