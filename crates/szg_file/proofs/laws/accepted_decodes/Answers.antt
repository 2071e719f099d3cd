use Rattle.szg_file.proofs.Grammar.DecodedLaws.{accepted_decodes}
use Rattle.szg_file.proofs.laws.accepted_decodes.Goals as goal

pub returns : goal.returns
returns c = accepted_decodes
