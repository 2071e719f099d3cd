use Rattle.std.proofs.Common.{◌≡◌, ◌+◌, ◌<◌, ◌++◌, ℕ, List, length}
use Rattle.std.specs.Prelude.{Some, slice_get}
use Rattle.szg_count.specs.Sets.{subsets, choose}
use Rattle.szg_count.proofs.subsets.unrank_subset.Given as goal

-- the remaining part of the rank determines the remaining part of the set
abbrev pub invariant-loop-number : goal.invariant-loop-number
invariant-loop-number l = record {
  below : l.rank < choose l.number l.left;
  ranked : (set : List ℕ) → slice_get (subsets l.number l.left) l.rank ≡ Some set → slice_get (subsets l.numbers l.chosen) l.fn.rank ≡ Some (l.set.items ++ set);
  left : length l.set.items + l.left ≡ l.chosen;
}
