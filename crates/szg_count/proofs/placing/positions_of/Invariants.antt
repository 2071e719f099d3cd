use Rattle.std.proofs.Common.{◌≡◌}
use Rattle.szg_count.specs.Steps.{positions_from}
use Rattle.szg_count.proofs.placing.positions_of.Given as goal

abbrev pub invariant-loop-position : goal.invariant-loop-position
invariant-loop-position l = l.positions.items ≡ positions_from l.lead l.other l.position
