use Rattle.std.proofs.Common.{sym}
use Rattle.szg_pairs.proofs.Dict.symbols.Goals as goal

pub returns-clause-dictionary : goal.returns-clause-dictionary
returns-clause-dictionary c = rw (sym c.self.view_is) c.self.invariant.dictionary
