use Rattle.std.proofs.Common.{ℕ, ◌≡◌, ◌<◌, length, map, take, get_or}
use Rattle.szg_subtable.specs.Pairing.{values_below}
use Rattle.szg_subtable.specs.Building.{leaves_below}
use Rattle.szg_subtable.proofs.pairing.leaves.begin.Given as goal

-- the leaves and the numbers of the values so far
abbrev pub invariant-loop-value : goal.invariant-loop-value
invariant-loop-value l = record {
  entries : l.entries.items ≡ leaves_below l.value l.values;
  count : length l.numbers.items ≡ l.value;
  numbers : (value : ℕ) → value < l.value → get_or l.numbers.items value 0 ≡ length (values_below value l.values);
}

-- the symbols of the values so far
abbrev pub invariant-loop-item : goal.invariant-loop-item
invariant-loop-item l = l.symbols.items ≡ map (λ v. length (values_below v l.values)) (take l.item-index l.values)
