use Rattle.std.proofs.Common.{◌∙◌}
use Rattle.szg_c.proofs.handle.with_held.Goals as goal

pub returns-clause-status : goal.returns-clause-status
returns-clause-status g c = rw c.in-Some.ensures.taken (record { shown = _; shows = c.value.ensures ∙ c.deref.ensures; called = c.function-status.ensures })
