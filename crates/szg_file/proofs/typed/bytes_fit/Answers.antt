use Rattle.szg_file.proofs.Tables.Bytes.{are_bytes}
use Rattle.szg_file.proofs.typed.bytes_fit.Goals as goal

pub returns : goal.returns
returns c = are_bytes c.args.list.now c.type_inv.list
