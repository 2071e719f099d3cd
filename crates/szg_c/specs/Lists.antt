-- Values at many indexes.
use Rattle.std.specs.Prelude.{◌≡◌, ℕ, ◌<◌, ◌≤◌, List, Some, slice_index}
use Rattle.szg_file.specs.Values.{item}

-- the first `n` values are those at the first `n` indexes
abbrev pub AreValuesAt : List ℕ → List ℕ → List ℕ → ℕ → Type 0
AreValuesAt all indexes values n = (k : ℕ) → k < n → item all (slice_index indexes k) ≡ Some (slice_index values k)

-- one of the first `n` indexes is not below the size
abbrev pub HasIndexFrom : ℕ → List ℕ → ℕ → Type 0
HasIndexFrom size indexes n = (k : ℕ) × (k < n) × (size ≤ slice_index indexes k)
