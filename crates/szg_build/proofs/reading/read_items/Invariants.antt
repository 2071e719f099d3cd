use Rattle.std.proofs.Common.{◌+◌, ◌-◌, ◌≤◌, length, map, [], ◌∷◌, ◌++◌}
use Rattle.szg_build.specs.Grammar.{value, repeated, number_line}
use Rattle.szg_build.specs.Held.{held_of}
use Rattle.szg_build.proofs.Readers.GoingLaws.{GoesOn, mapped}
use Rattle.szg_build.proofs.reading.read_items.Given as goal

-- the items so far were read, and the others are left
abbrev pub invariant-items : goal.invariant-items
invariant-items g l =
    GoesOn (repeated l.count (number_line (value ∷ []) g.T.Item.GREATEST)) (mapped (λ xs. map g.T.Item.number l.list.items ++ xs) (repeated (l.count - l.i) (number_line (value ∷ []) g.T.Item.GREATEST))) l.fn.incoming l.incoming g.R.Input l.fn.input l.input
    × (length (held_of l.incoming) ≤ l.following + (l.count - l.i))
