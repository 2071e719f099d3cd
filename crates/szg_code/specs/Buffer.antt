-- The state of a bit writer, and how its bytes represent it.
use Rattle.std.specs.Prelude.{ℕ, Bool, false, ◌≡◌, ◌+◌, ◌-◌, ◌*◌, ◌/◌, List, ◌++◌, length, take, replicate}
use Rattle.szg_code.specs.Bits.{bits}

-- the bits that were written, and the capacity in bytes
pub record Buffer : Type 0 where
  pub written : List Bool
  pub capacity : ℕ

-- the bytes hold `count` bits, and the rest of the last byte is zeros
pub record HoldsBits (bytes : List ℕ) (count : ℕ) : Type 0 where
  pub whole : length bytes ≡ (count + 7) / 8
  pub zero_padded : bits bytes ≡ take count (bits bytes) ++ replicate (8 * length bytes - count) false
