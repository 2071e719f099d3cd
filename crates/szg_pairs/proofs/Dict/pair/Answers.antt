use Rattle.std.proofs.Common.{◌<◌, length, map, sym, ◌∙◌, ap, refl}
use Rattle.szg_pairs.specs.State.{entry_of}
use Rattle.szg_pairs.proofs.Descending.{node_read, leaf_at, pair_at}
use Rattle.szg_pairs.proofs.Dict.pair.Goals as goal

pub returns-then-is_leaf-clause-leaf : goal.returns-then-is_leaf-clause-leaf
returns-then-is_leaf-clause-leaf c =
    let there : c.args.s < length (map entry_of c.self.inside.nodes.items) = rw c.self.view_is c.requires in
    let n = node_read _ c.self.invariant refl _ _ there c.index-node.ensures in
    let one = leaf_at _ c.self.invariant.dictionary _ _ there n.at (sym n.leaf ∙ sym c.is_leaf.ensures ∙ c.if-is_leaf.true) in
    rw (sym c.self.view_is) (ap length one)

pub returns : goal.returns
returns c =
    let there : c.args.s < length (map entry_of c.self.inside.nodes.items) = rw c.self.view_is c.requires in
    let n = node_read _ c.self.invariant refl _ _ there c.index-node.ensures in
    let p = pair_at _ c.self.invariant.dictionary _ _ there n.at (sym n.leaf ∙ sym c.is_leaf.ensures ∙ c.if-is_leaf.false) in
    rw (← c.self.view_is) (record {
      symbols = rw n.at (n.left, n.right);
      there = (rw (← n.left) at p.left_there, rw (← n.right) at p.right_there);
      joined = rw (← n.left, ← n.right) at p.joined;
      shorter = (rw (← n.left) at p.left_shorter, rw (← n.right) at p.right_shorter);
      leaf = tt;
    })
