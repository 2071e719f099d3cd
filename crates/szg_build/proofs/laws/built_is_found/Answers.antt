use Rattle.szg_build.proofs.Builders.BuiltLaws.{built_is_found}
use Rattle.szg_build.proofs.laws.built_is_found.Goals as goal

pub returns : goal.returns
returns c = built_is_found
