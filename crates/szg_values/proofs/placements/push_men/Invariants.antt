use Rattle.std.proofs.Common.{◌≡◌, ◌++◌, replicate}
use Rattle.szg_values.proofs.placements.push_men.Given as goal

abbrev pub invariant-loop-placed : goal.invariant-loop-placed
invariant-loop-placed l = l.side.items ≡ l.initial.side.items ++ replicate l.placed l.kind
