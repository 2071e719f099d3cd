-- Counts of failures and of requested bytes, blocks one after another, and the bytes at an offset.
use Rattle.std.specs.Prelude.{ℕ, ◌+◌, ◌≤◌, ◌^◌, ◌-◌, min, List, take, drop}
use Rattle.std.specs.Prelude.{Result, Ok, Err}
use Rattle.std.specs.List.{flat_map, range_with_len}

-- a count increased by `more`; it saturates at the greatest 64-bit value
abbrev pub raised : ℕ → ℕ → ℕ
raised count more = min (count + more) (2 ^ 64 - 1)

-- the count rose by at least one, or is at the greatest 64-bit value
abbrev pub Rose : ℕ → ℕ → Type 0
Rose old new = raised old 1 ≤ new

-- a source's failure count: it increases by one if the call fails
abbrev pub failed_after : {A E : Type 0} → Result A E → ℕ → ℕ
failed_after (Ok answer) failed = failed
failed_after (Err fault) failed = raised failed 1

-- the blocks 0 to count - 1, one after another
abbrev pub packed_blocks : (ℕ → List ℕ) → ℕ → List ℕ
packed_blocks block count = flat_map block (range_with_len 0 count)

-- the bytes from an offset on, at most `buffer_len` of them
abbrev pub bytes_at : List ℕ → ℕ → ℕ → List ℕ
bytes_at bytes offset buffer_len = take buffer_len (drop offset bytes)
