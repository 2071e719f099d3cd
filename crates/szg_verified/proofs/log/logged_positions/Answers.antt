use Rattle.std.proofs.Common.{arith}
use Rattle.szg_verified.proofs.log.logged_positions.Goals as goal

pub returns-in-Some-joined : goal.returns-in-Some-joined
returns-in-Some-joined c =
    let within = c.in-Some-record_in.ensures.within in
    (c.in-Some-record_in.record.shard.shards, omega (arith, within), c.in-Some-joined.ensures)
