-- How a reader finds the word that begins the bits: the least length at which the number of the leading bits is at
-- least the base.
use Rattle.std.specs.Prelude.{ℕ, Bool, ◌≡◌, ◌+◌, ◌-◌, ◌*◌, ◌%◌, ◌^◌, ◌<◌, ◌≤◌, List, length, take, slice_index}
use Rattle.szg_code.specs.Bits.{number}
use Rattle.szg_code.specs.Canonical.{CanonicalCode, base, lowest_of, symbol_at, top}

-- l is the least length at which the number of the first l bits is at least the base of l
pub record IsLeastLength (code : CanonicalCode) (bits : List Bool) (l : ℕ) : Type 0 where
  pub long_enough : code.min_length ≤ l
  pub short_enough : l ≤ code.max_length
  pub inside : l ≤ length bits
  pub reaches : base code l ≤ number (take l bits)
  pub before : (k : ℕ) → code.min_length ≤ k → k < l → number (take k bits) < base code k

-- at no length is the number of the leading bits at least the base
abbrev pub ReachesNoBase : CanonicalCode → List Bool → Type 0
ReachesNoBase code bits = (k : ℕ) → code.min_length ≤ k → k ≤ code.max_length → k ≤ length bits → number (take k bits) < base code k

-- the symbol of the first l bits
unfoldable pub symbol_of_prefix : CanonicalCode → List Bool → ℕ → ℕ
symbol_of_prefix code bits l = symbol_at code l (number (take l bits))

-- the base of a length, shifted to the top of a window of `window` bits
unfoldable pub shifted_base : CanonicalCode → ℕ → ℕ → ℕ
shifted_base code window l = base code l * 2 ^ (window - l)

-- the list contains the base of each length, from the least on
abbrev pub HasBases : CanonicalCode → List ℕ → Type 0
HasBases code bases = (j : ℕ) → j < length code.lowest → slice_index bases j ≡ base code (code.min_length + j)

-- the list contains each base, shifted to the top of a 64-bit window, at the index of its length
abbrev pub HasShiftedBases : CanonicalCode → List ℕ → Type 0
HasShiftedBases code bases = (l : ℕ) → code.min_length ≤ l → l ≤ code.max_length → slice_index bases l ≡ shifted_base code 64 l

-- the numbers below the end of each length have symbols: none is left without one
abbrev pub HasAllSymbols : CanonicalCode → Type 0
HasAllSymbols code = (l v : ℕ) → code.min_length ≤ l → l ≤ code.max_length → v < top code l → symbol_at code l v < code.symbols

-- at each 64-bit window above the bound eight bits is the least length, its base is reached, and no word is without a symbol
abbrev pub HasBytesAbove : CanonicalCode → ℕ → Type 0
HasBytesAbove code bound = (window : ℕ) → bound < window → window < 2 ^ 64 →
    (code.min_length ≡ 8) × (shifted_base code 64 8 ≤ window) × HasAllSymbols code

-- the symbol that the number 0 of a length would have, modulo 2^64
unfoldable pub zero_symbol : CanonicalCode → ℕ → ℕ
zero_symbol code l = (lowest_of code l + (2 ^ 64 - base code l)) % 2 ^ 64

-- the list contains this symbol at the index of each length, and lowest symbols have at most 16 bits
abbrev pub HasZeroSymbols : CanonicalCode → List ℕ → Type 0
HasZeroSymbols code symbols = (l : ℕ) → code.min_length ≤ l → l ≤ code.max_length → (lowest_of code l < 2 ^ 16) × (slice_index symbols l ≡ zero_symbol code l)

-- the first length whose base is reached by some 64-bit window with this first byte
pub record IsStart (code : CanonicalCode) (first l : ℕ) : Type 0 where
  pub long_enough : code.min_length ≤ l
  pub short_enough : l ≤ code.max_length
  pub before : (k : ℕ) → code.min_length ≤ k → k < l → (first + 1) * 2 ^ 56 ≤ shifted_base code 64 k
  pub reached : shifted_base code 64 l < (first + 1) * 2 ^ 56

-- the list has this length for each first byte
abbrev pub HasStarts : CanonicalCode → List ℕ → Type 0
HasStarts code starts = (first : ℕ) → first < 256 → IsStart code first (slice_index starts first)
