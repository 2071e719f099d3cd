use Rattle.szg_build.proofs.Texts.OwnDumps.{rebuilt_has_same_values}
use Rattle.szg_build.proofs.laws.rebuilt_has_same_values.Goals as goal

pub returns : goal.returns
returns c = rebuilt_has_same_values
