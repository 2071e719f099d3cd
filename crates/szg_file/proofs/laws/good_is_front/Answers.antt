use Rattle.szg_file.proofs.Grammar.DecodedLaws.{good_is_front}
use Rattle.szg_file.proofs.laws.good_is_front.Goals as goal

pub returns : goal.returns
returns c = good_is_front
