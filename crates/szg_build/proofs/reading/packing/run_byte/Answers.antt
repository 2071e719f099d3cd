use Rattle.szg_build.proofs.Builders.PackedLaws.{dtz_run, wdl_run}
use Rattle.szg_build.proofs.reading.packing.run_byte.Goals as goal

pub returns-in-Wdl-clause-rule : goal.returns-in-Wdl-clause-rule
returns-in-Wdl-clause-rule c = wdl_run c.args.kind c.args.value c.args.count c.in-Wdl.is (λ e. absurd (c.if-count-eq0.false e))

pub returns-in-Dtz-clause-rule : goal.returns-in-Dtz-clause-rule
returns-in-Dtz-clause-rule c = dtz_run c.args.kind c.args.value c.args.count c.in-Dtz.is c.if-value-eq0.true
