use Rattle.std.proofs.Common.{arith}
use Rattle.szg_archive.proofs.Logging.{last_next}
use Rattle.szg_archive.proofs.log.Log.last_state.Goals as goal

pub entries-preserved : goal.entries-preserved
entries-preserved c = last_next c.in_ok-normal.normal.items c.deref-entry-items.result.now c.entries.entry-index c.entry-item.result _ _ (omega arith) c.entry-item.is c.entries.invariant (rw c.deref.ensures.value at c.past-known.ensures)
