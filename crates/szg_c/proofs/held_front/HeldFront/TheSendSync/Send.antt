-- A handle may go from thread to thread.
use denote.Param.Send.{IsSend}
use Rattle.szg_c.specs.contracts.held_front.HeldFront.{the_row}
use Rattle.szg_file.proofs.opened.front_table.FrontTable.TheSendSync as value
use Rattle.szg_c.proofs.shared.Shared.TheSendSync as shared
use Rattle.szg_c.proofs.HandleSend.{handle_send}
use Rattle.szg_c.proofs.FrontKind.{kind}

pub send : IsSend the_row
send = handle_send kind (shared.the_send _ value.the_send value.the_sync)
