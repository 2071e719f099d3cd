use Rattle.std.proofs.Common.{length, map}
use Rattle.szg_pairs.specs.Expansion.{expansion_of}
use Rattle.szg_pairs.specs.State.{entry_of, IsDescent}
use Rattle.szg_pairs.proofs.Dict.descend.Given as goal

abbrev pub invariant-loop-self : goal.invariant-loop-self
invariant-loop-self l = IsDescent (map entry_of l.self-inside.nodes.items) l.s l.i l.symbol l.rest l.pairs

abbrev pub decreases-loop-self : goal.decreases-loop-self
decreases-loop-self l = length (expansion_of (map entry_of l.self-inside.nodes.items) l.symbol)
