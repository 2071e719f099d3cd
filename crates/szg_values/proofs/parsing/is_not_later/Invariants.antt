use Rattle.std.proofs.Common.{◌≡◌, length, drop}
use Rattle.szg_values.proofs.Letters.{letters_not_later}
use Rattle.szg_values.proofs.parsing.is_not_later.Given as goal

abbrev pub invariant-loop-a : goal.invariant-loop-a
invariant-loop-a l = letters_not_later l.first l.second ≡ letters_not_later (drop (length l.yielded) l.first) (drop (length l.yielded) l.second)
