use Rattle.std.proofs.Common.{◌≡◌, map, take}
use Rattle.szg_pairs.specs.State.{entry_of, node_of}
use Rattle.szg_pairs.proofs.nodes.find_nodes.Given as goal

abbrev pub invariant-loop-symbol : goal.invariant-loop-symbol
invariant-loop-symbol l = record {
  nodes : l.nodes.items ≡ map (node_of l.lengths) (take l.symbol l.entries);
  entries : map entry_of l.nodes.items ≡ take l.symbol l.entries;
}
