use Rattle.szg_file.proofs.Grammar.RefusalLaws.{refusal_is_final}
use Rattle.szg_file.proofs.laws.refusal_is_final.Goals as goal

pub returns : goal.returns
returns c = refusal_is_final
