-- The node of an entry has that entry.
use Rattle.std.proofs.Common.{ℕ, ◌≡◌, ◌+◌, ◌*◌, ◌/◌, ◌%◌, ◌≤◌, List, [], ◌∷◌, length, get_or, arith}
use Rattle.szg_pairs.specs.Entry.{left_of, right_of}
use Rattle.szg_pairs.specs.State.{bytes_of, entry_of, node_of}

-- the 24 bits of three bytes, from their two numbers of 12 bits
bits_joined : (x y z : ℕ) → x + 256 * (y % 16) + 4096 * (16 * z + y / 16) ≡ x + 256 * (y + 256 * z)
bits_joined x y z = omega arith

bytes_of_bits : (x y z : ℕ) → x ≤ 255 → y ≤ 255 → z ≤ 255 → bytes_of (x + 256 * (y + 256 * z)) ≡ x ∷ y ∷ z ∷ []
bytes_of_bits x y z low middle high =
    let first : (x + 256 * (y + 256 * z)) % 256 ≡ x = omega (arith, low) in
    let second : (x + 256 * (y + 256 * z)) / 256 % 256 ≡ y = omega (arith, low, middle) in
    let third : (x + 256 * (y + 256 * z)) / 65536 % 256 ≡ z = omega (arith, low, middle, high) in
    cc

pub entry_back : (lengths entry : List ℕ) → length entry ≡ 3 → get_or entry 0 0 ≤ 255 → get_or entry 1 0 ≤ 255 → get_or entry 2 0 ≤ 255 → entry_of (node_of lengths entry) ≡ entry
unfolding entry_of node_of left_of right_of
entry_back lengths [] three low middle high = absurd (omega arith)
entry_back lengths (x ∷ []) three low middle high = absurd (omega arith)
entry_back lengths (x ∷ y ∷ []) three low middle high = absurd (omega arith)
entry_back lengths (x ∷ y ∷ z ∷ []) three low middle high = rw (bits_joined x y z) (bytes_of_bits x y z low middle high)
entry_back lengths (x ∷ y ∷ z ∷ w ∷ ws) three low middle high = absurd (omega arith)
