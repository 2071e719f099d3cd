use Rattle.szg_build.specs.Packed.{IsSettled}
use Rattle.szg_build.proofs.reading.packed_dump.settle.Given as goal

-- the subtables so far are settled
abbrev pub invariant-subs : goal.invariant-subs
invariant-subs g l = IsSettled l.plan.kind l.fn.choice l.yielded l.settled.items
