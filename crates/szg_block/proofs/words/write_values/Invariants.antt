use Rattle.std.proofs.Common.{◌≡◌, ◌-◌, ◌≤◌, ◌++◌, length, take}
use Rattle.szg_code.specs.Bits.{bits}
use Rattle.szg_block.specs.Spelled.{values_spelled}
use Rattle.szg_block.proofs.words.write_values.Given as goal

abbrev pub invariant-words : goal.invariant-words
invariant-words l = record {
  there : l.at ≤ length l.values;
  within : length l.values - l.at ≤ length (values_spelled l.code l.dict l.words.left);
  joined : take l.at l.values ++ take (length l.values - l.at) (values_spelled l.code l.dict l.words.left) ≡ take (length l.initial.values) (values_spelled l.code l.dict (bits l.block));
}

abbrev pub decreases-words : goal.decreases-words
decreases-words l = length l.values - l.at
