use Rattle.std.proofs.Common.{arith}
use Rattle.szg_sums.proofs.Naming.{best_next}
use Rattle.szg_sums.proofs.lists.longest.Goals as goal

pub names-preserved : goal.names-preserved
names-preserved c = best_next c.args.path.now c.args.listed.now c.names.one-index c.one-item.result _ _ (omega arith) c.one-item.is c.names.invariant c.better-found.ensures
