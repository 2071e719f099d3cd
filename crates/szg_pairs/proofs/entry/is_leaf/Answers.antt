use Rattle.szg_pairs.specs.Entry.{is_leaf}
use Rattle.szg_pairs.proofs.entry.is_leaf.Goals as goal

pub returns : goal.returns
unfolding is_leaf
returns c = cc
