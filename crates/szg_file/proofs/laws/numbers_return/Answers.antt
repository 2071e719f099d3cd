use Rattle.szg_file.proofs.Grammar.RefusalLaws.{numbers_return}
use Rattle.szg_file.proofs.laws.numbers_return.Goals as goal

pub returns : goal.returns
returns c = numbers_return
