use Rattle.std.proofs.Common.{◌≡◌, ◌++◌, drop, map, take}
use Rattle.szg_c.specs.Tablebases.{raw_move}
use Rattle.szg_c.proofs.tablebase_calls.moves_in.Given as goal

-- the moves so far, and the rest of the list
abbrev pub invariant-loop-i : goal.invariant-loop-i
invariant-loop-i l = l.moves ≡ map raw_move (take l.i l.ranked.items) ++ drop l.i l.fn.moves
