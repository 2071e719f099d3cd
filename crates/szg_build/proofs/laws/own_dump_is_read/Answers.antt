use Rattle.szg_build.proofs.Texts.OwnDumps.{own_dump_is_read}
use Rattle.szg_build.proofs.laws.own_dump_is_read.Goals as goal

pub returns : goal.returns
returns c = own_dump_is_read
