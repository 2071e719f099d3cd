-- A word that contains a value among those that bits spell, and what the bits left spell.
use Rattle.std.specs.Prelude.{ℕ, ◌≡◌, ◌+◌, ◌-◌, ◌<◌, ◌≤◌, List, length, slice_get}
use Rattle.szg_pairs.specs.Expansion.{expansion_of}
use Rattle.szg_code.specs.Canonical.{CanonicalCode}
use Rattle.szg_code.specs.Cursor.{EndlessCursor}
use Rattle.szg_block.specs.Spelled.{values_spelled}
use Rattle.szg_block.specs.declared.words.Reached.{Reached}

-- the value at `index` of all is the one at `reached.index` of the word's values; from it on, `decoded` values come before those of the bits left
pub record IsReached (code : CanonicalCode) (entries : List (List ℕ)) (all : List ℕ) (index : ℕ) (reached : Reached) : Type 0 where
  pub there : reached.symbol < length entries
  pub within : reached.index < length (expansion_of entries reached.symbol)
  pub few : reached.index < 256
  pub value : slice_get (expansion_of entries reached.symbol) reached.index ≡ slice_get all index
  pub some : 0 < reached.decoded
  pub spelled : length all ≡ index + reached.decoded + length (values_spelled code entries reached.left.left)

-- The value at `index` of all is the one at `ahead` of those that the bits left spell. A cursor past the end has left too few.
pub record IsAhead (code : CanonicalCode) (entries : List (List ℕ)) (all : List ℕ) (index : ℕ) (left : EndlessCursor) (ahead : ℕ) : Type 0 where
  pub at_most : ahead ≤ index
  pub few : 0 < left.past → length all ≤ index
  pub same : left.past ≡ 0 → slice_get (values_spelled code entries left.cursor.left) ahead ≡ slice_get all index
  pub spelled : left.past ≡ 0 → length all ≡ (index - ahead) + length (values_spelled code entries left.cursor.left)
