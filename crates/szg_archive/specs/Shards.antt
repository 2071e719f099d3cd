-- Shards: every N-th of the files.
use Rattle.std.specs.Prelude.{ℕ, ◌+◌, ◌%◌, ◌==◌, nat_lt, Bool, ◌&&◌, List, [], ◌∷◌, ◌++◌, Option, Some, None, if◌then◌else◌}
use Rattle.szg_named.specs.declared.checks.FileShard.{FileShard}

-- whether a shard has the file after so many others
abbrev pub has : FileShard → ℕ → Bool
has shard before = nat_lt 0 shard.count && (before % shard.count + 1 == shard.number)

-- one file, if a shard has it
abbrev pub taken_of : {X : Type 0} → FileShard → ℕ → X → List X
taken_of shard before x = if has shard before then x ∷ [] else []

-- those of a shard, after so many others
abbrev pub shard_after : {X : Type 0} → FileShard → ℕ → List X → List X
shard_after shard before [] = []
shard_after shard before (x ∷ xs) = taken_of shard before x ++ shard_after shard (before + 1) xs

-- those of a shard, or all if none is given
abbrev pub shard_of : {X : Type 0} → Option FileShard → List X → List X
shard_of None files = files
shard_of (Some shard) files = shard_after shard 0 files
