use Rattle.szg_file.proofs.Grammar.UnreadLaws.{front_agrees}
use Rattle.szg_file.proofs.laws.front_agrees.Goals as goal

pub returns : goal.returns
returns c = front_agrees
