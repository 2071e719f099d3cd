-- What holds between two steps of the walk that computes the number of values of each symbol.
use Rattle.std.specs.Prelude.{ℕ, Bool, true, false, ◌≡◌, ◌+◌, ◌*◌, ◌<◌, ◌⊎◌, List, Some, count_by, not, length, min, slice_get, slice_index, slice_index_or}
use Rattle.szg_pairs.specs.Entry.{left_of, right_of, is_leaf}
use Rattle.szg_pairs.specs.Expansion.{Expands}

-- n is the number of values of symbol s, or 257 if that is more than 256
abbrev pub IsLength : List (List ℕ) → ℕ → ℕ → Type 0
IsLength entries s n = (values : List ℕ) × Expands entries s values × (n ≡ min (length values) 257)

-- n is the number of values of symbol s (257 if that is more than 256), or 0 if symbol s has no expansion
pub record IsLengthOrNone (entries : List (List ℕ)) (s n : ℕ) : Type 0 where
  pub known : 0 < n → IsLength entries s n
  pub unknown : n ≡ 0 → (values : List ℕ) → Expands entries s values → ⊥

-- `lengths` has such a number for each symbol
pub record AreLengths (entries : List (List ℕ)) (lengths : List ℕ) : Type 0 where
  pub same_length : length lengths ≡ length entries
  pub each : (s : ℕ) → s < length entries → IsLengthOrNone entries s (slice_index lengths s)

-- c is one of the two symbols of an entry
pub record IsPart (entry : List ℕ) (c : ℕ) : Type 0 where
  pub is_pair : is_leaf entry ≡ false
  pub one : (c ≡ left_of entry) ⊎ (c ≡ right_of entry)

-- c is one of the two symbols of the pair s
abbrev pub HasPart : List (List ℕ) → ℕ → ℕ → Type 0
HasPart entries s c = (entry : List ℕ) × (slice_get entries s ≡ Some entry) × IsPart entry c

-- n is the length of an entry, computed from the known lengths of its two symbols
abbrev pub LengthOfKind : Bool → List ℕ → List ℕ → ℕ → Type 0
LengthOfKind true entry lengths n = n ≡ 1
LengthOfKind false entry lengths n = (0 < slice_index lengths (left_of entry)) × (0 < slice_index lengths (right_of entry))
    × (n ≡ min (slice_index lengths (left_of entry) + slice_index lengths (right_of entry)) 257)

-- c is a symbol of the entry, and its length is unknown
pub record IsMissing (entry lengths : List ℕ) (c : ℕ) : Type 0 where
  pub part : IsPart entry c
  pub unknown : slice_index lengths c ≡ 0

-- symbol s was seen
abbrev pub IsSeen : List Bool → ℕ → Type 0
IsSeen seen s = slice_index_or seen s false ≡ true

-- seen symbols stay seen
abbrev pub StaysSeen : List Bool → List Bool → Type 0
StaysSeen old new = (s : ℕ) → IsSeen old s → IsSeen new s

-- symbol s was seen, and its length is unknown
pub record IsOpen (lengths : List ℕ) (seen : List Bool) (s : ℕ) : Type 0 where
  pub seen_once : IsSeen seen s
  pub unknown : slice_index lengths s ≡ 0

-- symbol s is on the path
abbrev pub IsOnPath : List ℕ → ℕ → Type 0
IsOnPath path s = (i : ℕ) × (i < length path) × (slice_index path i ≡ s)

-- symbol s waits for a symbol that is open and not on the path
abbrev pub IsStuck : List (List ℕ) → List ℕ → List Bool → List ℕ → ℕ → Type 0
IsStuck entries lengths seen path s = (c : ℕ) × HasPart entries s c × IsOpen lengths seen c × (IsOnPath path c → ⊥)

-- A length of 0 is unknown. Each symbol on the path is open and waits for the next one. Any other open symbol is
-- stuck.
pub record IsWalk (entries : List (List ℕ)) (lengths : List ℕ) (seen : List Bool) (path : List ℕ) : Type 0 where
  pub lengths_count : length lengths ≡ length entries
  pub seen_count : length seen ≡ length entries
  pub known : (s : ℕ) → 0 < slice_index lengths s → IsLength entries s (slice_index lengths s)
  pub known_seen : (s : ℕ) → 0 < slice_index lengths s → IsSeen seen s
  pub path_there : (i : ℕ) → i < length path → slice_index path i < length entries
  pub path_open : (i : ℕ) → i < length path → IsOpen lengths seen (slice_index path i)
  pub path_apart : (i j : ℕ) → i < j → j < length path → slice_index path i ≡ slice_index path j → ⊥
  pub path_waits : (i : ℕ) → i + 1 < length path → HasPart entries (slice_index path i) (slice_index path (i + 1))
  pub others_stuck : (s : ℕ) → IsOpen lengths seen s → IsOnPath path s ⊎ IsStuck entries lengths seen path s

-- A bound on the remaining steps: two for each symbol that was not seen, and one for each on the path.
abbrev pub work_left : List Bool → List ℕ → ℕ
work_left seen path = 2 * count_by not seen + length path
