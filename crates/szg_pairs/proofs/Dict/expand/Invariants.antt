use Rattle.std.proofs.Common.{◌≡◌, ◌++◌, length, map}
use Rattle.szg_pairs.specs.Expansion.{expansion_of}
use Rattle.szg_pairs.specs.State.{entry_of, stack_values, steps_left}
use Rattle.szg_pairs.proofs.Expanding.{AllBelow}
use Rattle.szg_pairs.proofs.Dict.expand.Given as goal

abbrev pub invariant-loop-symbol : goal.invariant-loop-symbol
invariant-loop-symbol l = record {
  spelled_so_far : l.values.items ++ stack_values (map entry_of l.self-inside.nodes.items) l.waiting.items ≡ expansion_of (map entry_of l.self-inside.nodes.items) l.s;
  there : AllBelow (length (map entry_of l.self-inside.nodes.items)) l.waiting.items;
}

abbrev pub decreases-loop-symbol : goal.decreases-loop-symbol
decreases-loop-symbol l = steps_left (map entry_of l.self-inside.nodes.items) l.waiting.items
