use Rattle.szg_file.proofs.Tables.OnlyWanted.{only_one}
use Rattle.szg_file.proofs.laws.only_one_is_wanted.Goals as goal

pub returns : goal.returns
returns c = only_one
