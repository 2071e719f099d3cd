use Rattle.std.proofs.Common.{arith}
use Rattle.szg_pairs.proofs.Walking.{lengths_at_end}
use Rattle.szg_pairs.proofs.walk.find_lengths.Goals as goal

pub returns : goal.returns
returns c = lengths_at_end _ _ _ c.requires.named c.loop-symbol.invariant.walk (λ s there. c.loop-symbol.invariant.entered s (omega arith))
