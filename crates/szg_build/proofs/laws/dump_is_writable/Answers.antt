use Rattle.szg_build.proofs.Texts.OwnDumps.{dump_is_writable}
use Rattle.szg_build.proofs.laws.dump_is_writable.Goals as goal

pub returns : goal.returns
returns c = dump_is_writable
