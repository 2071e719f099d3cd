use Rattle.std.proofs.Common.{◌≡◌, drop}
use Rattle.szg_values.proofs.Letters.{letters_fall}
use Rattle.szg_values.proofs.parsing.is_in_order.Given as goal

abbrev pub invariant-loop-letter : goal.invariant-loop-letter
invariant-loop-letter l = letters_fall 6 l.side ≡ letters_fall l.last (drop l.letter-index l.side)
