use Rattle.std.proofs.Common.{ℕ, List, ◌≡◌, ◌<◌, Some, true, false, length, take, get_or}
use Rattle.std.specs.Prelude.{◌⊎◌}
use Rattle.std.specs.List.{AllByRecursion, slice_get}
use Rattle.szg_code.specs.Canonical.{IsIn}
use Rattle.szg_pairs.specs.Entry.{is_leaf}
use Rattle.szg_subtable.specs.Pairing.{IsInPair}
use Rattle.szg_subtable.proofs.pairing.accepting.are_used.Given as goal

-- the symbols so far are in the dictionary, and each marked symbol is in the text
abbrev pub invariant-loop-symbol : goal.invariant-loop-symbol
invariant-loop-symbol l = record {
  count : length l.marks ≡ length l.entries;
  below : AllByRecursion (λ s. s < length l.entries) (take l.symbol-index l.symbols);
  marked : (s : ℕ) → get_or l.marks s false ≡ true → IsIn l.symbols s;
}

-- each marked symbol was marked before the loop, or is in the pair of another symbol
abbrev pub invariant-loop-pair : goal.invariant-loop-pair
invariant-loop-pair l = record {
  count : length l.marks ≡ length l.entries;
  marked : (s : ℕ) → get_or l.marks s false ≡ true → (get_or l.initial.marks s false ≡ true) ⊎ IsInPair l.entries s;
}

-- the pairs so far are marked
abbrev pub invariant-loop-place : goal.invariant-loop-place
invariant-loop-place l = (s : ℕ) (entry : List ℕ) → s < l.place → slice_get l.entries s ≡ Some entry → is_leaf entry ≡ false → get_or l.marks s false ≡ true
