use Rattle.std.proofs.Common.{◌≡◌, ◌≤◌, length, take}
use Rattle.std.specs.Prelude.{filter_map}
use Rattle.szg_values.specs.Men.{man_of}
use Rattle.szg_values.proofs.parsing.men_of.Given as goal

abbrev pub invariant-loop-letter : goal.invariant-loop-letter
invariant-loop-letter l = (l.men.items ≡ filter_map man_of (take l.letter-index l.side)) × (length l.men.items ≤ l.letter-index)
