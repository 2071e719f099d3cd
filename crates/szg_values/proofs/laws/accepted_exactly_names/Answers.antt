use Rattle.szg_values.proofs.Names.{names}
use Rattle.szg_values.proofs.laws.accepted_exactly_names.Goals as goal

pub returns : goal.returns
returns c = names
