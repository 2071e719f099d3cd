use Rattle.szg_pairs.proofs.Descending.{length_read_back}
use Rattle.szg_pairs.proofs.Dict.len.Goals as goal

pub returns-clause-at_least : goal.returns-clause-at_least
returns-clause-at_least c = (length_read_back _ _ _ _ _ c.self.invariant c.self.view_is c.requires c.index.ensures).1

pub returns-clause-at_most : goal.returns-clause-at_most
returns-clause-at_most c = (length_read_back _ _ _ _ _ c.self.invariant c.self.view_is c.requires c.index.ensures).2
