use Rattle.szg_block.specs.Reached.{IsAhead}
use Rattle.szg_block.specs.Spelled.{values_spelled}
use Rattle.szg_block.proofs.words.reach_by.Given as goal

abbrev pub invariant-words : goal.invariant-words
invariant-words g l = IsAhead l.code l.dict (values_spelled l.code l.dict l.fn.left.left) l.index l.left l.ahead

abbrev pub decreases-words : goal.decreases-words
decreases-words g l = l.ahead
