-- A handle may be sent to another thread.
use denote.Param.Send.{IsSend}
use Rattle.szg_c.specs.contracts.held_table.HeldTable.{the_row}
use Rattle.szg_file.proofs.table.Table.TheSendSync as value
use Rattle.szg_c.proofs.shared.Shared.TheSendSync as shared
use Rattle.szg_c.proofs.HandleSend.{handle_send}
use Rattle.szg_c.proofs.TableKind.{kind}

pub send : IsSend the_row
send = handle_send kind (shared.the_send _ value.the_send value.the_sync)
