-- Laws of the commands on files.
use Rattle.std.specs.Prelude.{ℕ, zero, suc, ◌+◌, ◌<◌, List, [], ◌∷◌, flat_map, IsPermutation, Some}
use Rattle.szg_archive.specs.Shards.{shard_of}
use Rattle.szg_archive.specs.Verdicts.{Listed}
use Rattle.szg_named.specs.declared.checks.FileShard.{FileShard}

-- the shards of `count` from number `first` on, so many
abbrev pub shards_from : ℕ → ℕ → ℕ → List FileShard
shards_from count first zero = []
shards_from count first (suc many) = record { number = first; count = count } ∷ shards_from count (first + 1) many

-- The shards 1 to `count` together have all files, each once.
abbrev pub ShardsShareFiles : Type 0
ShardsShareFiles = (count : ℕ) → 0 < count → (files : List Listed) → IsPermutation files (flat_map (λ shard. shard_of (Some shard) files) (shards_from count 1 count))
