use Rattle.szg_file.specs.Unread.{unread_file}
use Rattle.szg_c.proofs.Stopped.{no_device, stops}
use Rattle.szg_c.proofs.tablebase_calls.szg_tablebase_add.Goals as goal

pub fault_status-requires : goal.fault_status-requires
fault_status-requires c = no_device _ c.in-Err.fault c.in-Err.ensures.refused

pub returns-in-Err-clause-stops : goal.returns-in-Err-clause-stops
returns-in-Err-clause-stops c = λ _.
    stops unread_file c.args.name.now c.args.dtz c.args.bytes.now c.in-Some.material c.kind_of.result c.in-Some.ensures c.kind_of.ensures c.in-Err.fault _ _ _ c.in-Err.ensures.refused c.fault_status.ensures
