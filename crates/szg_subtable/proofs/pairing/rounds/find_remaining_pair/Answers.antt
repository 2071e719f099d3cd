use Rattle.std.proofs.Common.{arith}
use Rattle.szg_subtable.proofs.pairing.rounds.find_remaining_pair.Goals as goal

pub returns-clause-none : goal.returns-clause-none
returns-clause-none c = λ left right l r short.
    omega (arith, c.count_pairs.ensures left right l r, c.loop-left.invariant left right (omega (arith, l)) r short)
