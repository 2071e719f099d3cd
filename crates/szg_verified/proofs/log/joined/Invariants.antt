use Rattle.std.proofs.Common.{ℕ, ◌<◌}
use Rattle.szg_verified.specs.Logs.{IsRecordedIn}
use Rattle.szg_verified.proofs.log.joined.Given as goal

-- the log has each shard so far
abbrev pub invariant-shards : goal.invariant-shards
invariant-shards l = (before : ℕ) → before < l.before → IsRecordedIn l.log l.name l.digest before l.shards
