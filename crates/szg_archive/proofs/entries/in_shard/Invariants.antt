use Rattle.std.proofs.Common.{◌≡◌, map, take}
use Rattle.szg_archive.specs.Shards.{shard_after}
use Rattle.szg_archive.specs.Verdicts.{listed_of}
use Rattle.szg_archive.proofs.entries.in_shard.Given as goal

abbrev pub invariant-entries : goal.invariant-entries
invariant-entries l = map listed_of l.chosen.items ≡ shard_after l.shard 0 (map listed_of (take l.number l.entry-items))
