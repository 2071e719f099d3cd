use Rattle.szg_verified.proofs.Answers.{answers_are_true}
use Rattle.szg_verified.proofs.laws.answers_are_true.Goals as goal

pub returns : goal.returns
returns c = answers_are_true
