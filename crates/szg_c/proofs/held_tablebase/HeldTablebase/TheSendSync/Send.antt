-- A handle may go from thread to thread.
use denote.Signature.{static_lft}
use denote.Param.Send.{IsSend}
use Rattle.szg_c.specs.contracts.held_tablebase.HeldTablebase.{the_row}
use Rattle.szg_tables.specs.contracts.mapped.MappedTableOpenTable.TheImpl.{ghosts}
use Rattle.szg_tables.proofs.mapped.MappedTable.TheSendSync as table
use Rattle.szg_tables.proofs.opened.OpenedSet.TheSendSync as tables
use Rattle.szg_c.proofs.HandleSend.{handle_send}
use Rattle.szg_c.proofs.TablebaseKind.{kind}

pub send : IsSend the_row
send = handle_send kind (tables.the_send _ ghosts (table.the_send static_lft))
