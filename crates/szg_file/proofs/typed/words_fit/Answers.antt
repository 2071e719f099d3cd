use Rattle.szg_file.proofs.Tables.Bytes.{are_words}
use Rattle.szg_file.proofs.typed.words_fit.Goals as goal

pub returns : goal.returns
returns c = are_words c.args.list.now c.type_inv.list
