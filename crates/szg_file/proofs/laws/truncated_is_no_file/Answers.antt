use Rattle.szg_file.proofs.Grammar.RefusalLaws.{truncated_is_no_file}
use Rattle.szg_file.proofs.laws.truncated_is_no_file.Goals as goal

pub returns : goal.returns
returns c = truncated_is_no_file
