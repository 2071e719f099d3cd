use Rattle.std.proofs.Common.{arith, rules}
use Rattle.szg_archive.proofs.Listing.{shard_next}
use Rattle.szg_archive.proofs.entries.in_shard.Goals as goal

pub entries-preserved : goal.entries-preserved
entries-preserved c =
    shard_next c.in-Some.shard c.deref-entry-items.result.now c.entries.number c.entry-item.result c.entries.chosen.items c.add_in.new.chosen.items (omega arith) c.entry-item.is c.entries.invariant (search rules)
