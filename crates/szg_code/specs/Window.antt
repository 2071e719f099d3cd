-- The state of a reader by windows: the bits that were read but not taken, at the top of 64 bits.
use Rattle.std.specs.Prelude.{ℕ, zero, suc, Bool, false, ◌≡◌, ◌+◌, ◌-◌, ◌*◌, ◌^◌, ◌≤◌, List, [], ◌∷◌, length, drop}
use Rattle.szg_code.specs.Bits.{bits, number}

-- the first n bits, padded with zeros if there are fewer
abbrev pub padded : ℕ → List Bool → List Bool
padded zero bits = []
padded (suc n) [] = false ∷ padded n []
padded (suc n) (b ∷ bits) = b ∷ padded n bits

-- A window holds the bits from an offset on, at the top of 64 bits; the last `spare` of these are zeros.
pub record IsWindow (bytes : List ℕ) (offset window spare : ℕ) : Type 0 where
  pub short : spare ≤ 64
  pub window_is : window ≡ number (padded (64 - spare) (drop offset (bits bytes))) * 2 ^ spare

-- a window holds at least `held` bits from an offset on
pub record HoldsBits (bytes : List ℕ) (offset window held : ℕ) : Type 0 where
  pub spare : ℕ
  pub room : held + spare ≤ 64
  pub is_window : IsWindow bytes offset window spare

-- the fields of a reader are valid; it is past the end of the bytes by at most a window
pub record IsWordReader (bytes : List ℕ) (offset window held : ℕ) : Type 0 where
  pub fits : length bytes ≤ 2 ^ 60
  pub near : offset + held ≤ 8 * length bytes + 64
  pub holds : HoldsBits bytes offset window held
