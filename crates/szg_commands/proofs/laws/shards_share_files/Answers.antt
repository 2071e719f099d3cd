use Rattle.szg_commands.proofs.Sharing.{shards_share}
use Rattle.szg_commands.proofs.laws.shards_share_files.Goals as goal

pub returns : goal.returns
returns c = shards_share
