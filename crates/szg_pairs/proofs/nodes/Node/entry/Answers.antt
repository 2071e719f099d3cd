use Rattle.szg_pairs.specs.State.{entry_of}
use Rattle.szg_pairs.proofs.nodes.Node.entry.Goals as goal

pub returns : goal.returns
unfolding entry_of
returns c = rw (c.from.ensures, c.from-2.ensures)
