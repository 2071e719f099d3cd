use Rattle.std.proofs.Common.{subst}
use Rattle.szg_values.specs.declared.Kind.{Kind}
use Rattle.szg_file.specs.Format.{verdict}
use Rattle.szg_file.specs.File.{file}
use Rattle.szg_c.specs.Reported.{Finds}
use Rattle.szg_c.proofs.Stopped.{no_device, of_verdict, stops}
use Rattle.szg_c.proofs.opening.open.Goals as goal

pub returns-in-Ok-clause-table : goal.returns-in-Ok-clause-table
returns-in-Ok-clause-table c =
    (c.in-Some.material, c.in-Some.ensures, subst (λ (k : Kind). Finds (verdict (file c.in-Some.material k) 0 c.args.bytes.now) c.in-Ok.table) c.kind_of.ensures c.in-Ok.ensures)

pub fault_status-requires : goal.fault_status-requires
fault_status-requires c = no_device _ c.in-Err.fault (of_verdict _ c.in-Err.fault c.in-Err.ensures)

pub returns-in-Err-clause-stops : goal.returns-in-Err-clause-stops
returns-in-Err-clause-stops c =
    stops file c.args.name.now c.args.dtz c.args.bytes.now c.in-Some.material c.kind_of.result c.in-Some.ensures c.kind_of.ensures c.in-Err.fault _ _ _ (of_verdict _ c.in-Err.fault c.in-Err.ensures) c.fault_status.ensures
