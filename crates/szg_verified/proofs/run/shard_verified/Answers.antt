use Rattle.std.proofs.Common.{sym}
use Rattle.szg_verified.proofs.Naming.{alone, shard_named}
use Rattle.szg_verified.proofs.run.shard_verified.Goals as goal

pub returns : goal.returns
returns g c =
    let asked = c.in-Some-len1-None in
    let found = c.in_ok-found.ensures in
    record {
      name = _;
      material = c.in-Ok.material;
      before = asked.shard.before;
      shards = asked.shard.shards;
      alone = alone c.args.asked.names.now _ asked.len_at_least asked.len_below;
      named = sym c.in-Ok.ensures.parsed;
      shard = shard_named c.args.asked.shard c.args.shard.now asked.shard.before asked.shard.shards c.requires asked.ensures.named;
      checked = found.checked;
      caused = found.caused;
      counted = found.counted;
    }
