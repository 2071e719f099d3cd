use Rattle.szg_file.proofs.Grammar.RefusalLaws.{refused_is_no_file}
use Rattle.szg_file.proofs.laws.refused_is_no_file.Goals as goal

pub returns : goal.returns
returns c = refused_is_no_file
