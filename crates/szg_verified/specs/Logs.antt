-- What a log says: the lines of earlier verifications.
use Rattle.std.specs.Prelude.{ℕ, ◌≡◌, ◌+◌, ◌<◌, ◌⊎◌, List, [], ◌++◌, codes, Contains}
use Rattle.std.specs.Str.Lines.{lines}
use Rattle.std.specs.Str.Parse.{digits_value, without_leading_plus}

-- the number that a text writes
abbrev pub number_in : List ℕ → ℕ
number_in text = digits_value 10 (without_leading_plus text)

-- a text such as 2/5: of `shards` shards, the one after `before` others
abbrev pub IsShardText : List ℕ → ℕ → ℕ → Type 0
IsShardText text before shards =
    (number : List ℕ) × (count : List ℕ) × (text ≡ number ++ (codes "/" ++ count)) × (number_in number ≡ before + 1) × (number_in count ≡ shards)

-- what a line says of a shard between the name and its verdict; of the whole material, nothing, or that a log had it
abbrev pub IsExtent : List ℕ → ℕ → ℕ → Type 0
IsExtent extent before shards =
    (((extent ≡ []) ⊎ (extent ≡ codes "logged: ")) × (before ≡ 0) × (shards ≡ 1))
    ⊎ ((text : List ℕ) × (extent ≡ codes "shard " ++ (text ++ codes " ")) × IsShardText text before shards)

-- a line by which the positions of this shard of a material were verified, with tables of this digest
pub record IsRecord (name digest : List ℕ) (before shards : ℕ) (line : List ℕ) : Type 0 where
  pub extent : List ℕ
  pub positions : List ℕ
  pub is : line ≡ name ++ (codes " " ++ (extent ++ (codes "verified positions " ++ (positions ++ (codes " sha256 " ++ digest)))))
  pub says : IsExtent extent before shards

abbrev pub IsRecordedIn : List ℕ → List ℕ → List ℕ → ℕ → ℕ → Type 0
IsRecordedIn log name digest before shards = (line : List ℕ) × Contains (lines log) line × IsRecord name digest before shards line

-- the log has a line for each of some number of shards of a material, or one for the whole
abbrev pub AreRecorded : List ℕ → List ℕ → List ℕ → Type 0
AreRecorded log name digest = (shards : ℕ) × (0 < shards) × ((before : ℕ) → before < shards → IsRecordedIn log name digest before shards)
