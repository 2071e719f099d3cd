-- Which pairs a builder may leave in a dictionary, and when it may stop making them.
use Rattle.std.specs.Prelude.{◌≡◌, ℕ, suc, ◌+◌, ◌<◌, ◌≤◌, ◌==◌, ◌&&◌, true, false, ◌⊎◌, List, [], ◌∷◌, length, filter, not, Some, slice_get}
use Rattle.std.specs.List.{flat_map, concat, list_any, range_with_len}
use Rattle.szg_code.specs.Bits.{bits}
use Rattle.szg_code.specs.Canonical.{IsIn}
use Rattle.szg_code.specs.Spelling.{Spells}
use Rattle.szg_pairs.specs.Entry.{left_of, right_of, is_leaf}
use Rattle.szg_pairs.specs.Expansion.{expansion_of}
use Rattle.szg_block.specs.Layout.{Layout}
use Rattle.szg_block.specs.Block.{needed, block_at}
use Rattle.szg_block.specs.Expansion.{joined_values}

-- the different values of a list that are below a bound, ascending
unfoldable pub values_below : ℕ → List ℕ → List ℕ
values_below bound list = filter (λ value. list_any (λ v. v == value) list) (range_with_len 0 bound)

-- the different values of a list, ascending
abbrev pub different_values : List ℕ → List ℕ
different_values list = values_below 4096 list

-- how often the pair occurs in the symbols, counted from left to right without overlap
abbrev pub pair_count : ℕ → ℕ → List ℕ → ℕ
pair_count left right [] = 0
pair_count left right (s ∷ []) = 0
pair_count left right (s ∷ t ∷ symbols) =
    elim ((s == left) && (t == right)) [ true ↦ suc (pair_count left right symbols) | false ↦ pair_count left right (t ∷ symbols) ]

-- the symbols, with each occurrence of the pair replaced by the new symbol, from left to right
abbrev pub replaced : ℕ → ℕ → ℕ → List ℕ → List ℕ
replaced left right new [] = []
replaced left right new (s ∷ []) = s ∷ []
replaced left right new (s ∷ t ∷ symbols) =
    elim ((s == left) && (t == right)) [ true ↦ new ∷ replaced left right new symbols | false ↦ s ∷ replaced left right new (t ∷ symbols) ]

-- the entries that are pairs
abbrev pub pairs_in : List (List ℕ) → List (List ℕ)
pairs_in entries = filter (λ entry. not (is_leaf entry)) entries

-- the values of symbols, joined
abbrev pub values_of : List (List ℕ) → List ℕ → List ℕ
values_of entries symbols = flat_map (expansion_of entries) symbols

-- the shortest list of symbols that has at least m values and whose words are at the start of the block's bits
pub record IsShortest (layout : Layout) (block : List ℕ) (m : ℕ) (symbols : List ℕ) : Type 0 where
  pub spelled : Spells layout.code (bits block) symbols
  pub enough : m ≤ length (values_of layout.entries symbols)
  pub least : (others : List ℕ) → Spells layout.code (bits block) others → m ≤ length (values_of layout.entries others) → length symbols ≤ length others

-- in a subtable of `size` values, the shortest lists for the needed values of the blocks from the j-th on
abbrev pub AreShortest : Layout → List ℕ → ℕ → ℕ → List (List ℕ) → Type 0
AreShortest layout packed size j [] = Unit {0}
AreShortest layout packed size j (symbols ∷ lists) =
    IsShortest layout (block_at layout.block_bits packed j) (needed layout.lengths size j) symbols
    × AreShortest layout packed size (j + 1) lists

-- a pair may be made if its two symbols together have at most 256 values
abbrev pub IsShort : List (List ℕ) → ℕ → ℕ → Type 0
IsShort entries left right = length (expansion_of entries left) + length (expansion_of entries right) ≤ 256

-- no pair that may be made occurs 4 times or more
abbrev pub IsExhausted : List (List ℕ) → List ℕ → Type 0
IsExhausted entries symbols = (left right : ℕ) → IsShort entries left right → pair_count left right symbols < 4

-- there is a pair for each round; or fewer, if there are 4,095 symbols or no pair is left to be made
abbrev pub IsFinished : List (List ℕ) → List ℕ → ℕ → Type 0
IsFinished entries symbols rounds =
    (length (pairs_in entries) ≡ rounds)
    ⊎ ((length (pairs_in entries) < rounds) × ((length entries ≡ 4095) ⊎ IsExhausted entries symbols))

-- symbol s occurs in the pair of another symbol
pub record IsInPair (entries : List (List ℕ)) (s : ℕ) : Type 0 where
  pub other : ℕ
  pub entry : List ℕ
  pub there : slice_get entries other ≡ Some entry
  pub pair : is_leaf entry ≡ false
  pub half : (left_of entry ≡ s) ⊎ (right_of entry ≡ s)
  pub another : ¬ (other ≡ s)

-- each pair occurs in the symbols or in another pair
abbrev pub IsUsed : List (List ℕ) → List ℕ → Type 0
IsUsed entries symbols = (s : ℕ) (entry : List ℕ) → slice_get entries s ≡ Some entry → is_leaf entry ≡ false → IsIn symbols s ⊎ IsInPair entries s

-- The entries of a subtable: the pairs, and one leaf for each different value. `lists` are the shortest lists of
-- symbols for the needed values of the blocks. Each pair occurs in these lists or in another pair, and no more pairs
-- are to be made.
pub record IsPaired (layout : Layout) (packed : List ℕ) (size rounds : ℕ) : Type 0 where
  pub lists : List (List ℕ)
  pub count : length lists ≡ layout.blocks
  pub shortest : AreShortest layout packed size 0 lists
  pub finished : IsFinished layout.entries (concat lists) rounds
  pub used : IsUsed layout.entries (concat lists)
  pub leaves : length layout.entries ≡ length (different_values (joined_values layout packed size)) + length (pairs_in layout.entries)
