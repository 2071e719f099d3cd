use Rattle.std.proofs.Common.{length, ap, sym, ◌∙◌, arith, refl}
use Rattle.szg_pairs.specs.State.{entry_of, node_of}
use Rattle.szg_pairs.proofs.Bytes.{entry_back}
use Rattle.szg_pairs.proofs.Walking.{parts_below}
use Rattle.szg_pairs.proofs.nodes.Node.new.Goals as goal

pub bounds-lengths-left : goal.bounds-lengths-left
bounds-lengths-left c =
    let below = parts_below (length c.args.lengths.now) c.args.entry.now c.requires (sym c.is_leaf.ensures ∙ c.if-is_leaf.false) in
    omega (arith, below.0, c.left-left.ensures)

pub returns-then-is_leaf-clause-node : goal.returns-then-is_leaf-clause-node
unfolding node_of
returns-then-is_leaf-clause-node c = rw (sym c.is_leaf.ensures, c.if-is_leaf.true, c.left-left.ensures, c.right-right.ensures) refl

pub returns-then-is_leaf-clause-entry : goal.returns-then-is_leaf-clause-entry
returns-then-is_leaf-clause-entry c =
    ap entry_of (returns-then-is_leaf-clause-node c) ∙ entry_back c.args.lengths.now c.args.entry.now c.told-entry c.if-prove.false c.if-prove-2.false c.if-prove-3.false

pub returns-else-is_leaf-clause-node : goal.returns-else-is_leaf-clause-node
unfolding node_of
returns-else-is_leaf-clause-node c = rw (sym c.is_leaf.ensures, c.if-is_leaf.false, c.left-left.ensures, c.right-right.ensures) refl

pub returns-else-is_leaf-clause-entry : goal.returns-else-is_leaf-clause-entry
returns-else-is_leaf-clause-entry c =
    ap entry_of (returns-else-is_leaf-clause-node c) ∙ entry_back c.args.lengths.now c.args.entry.now c.told-entry c.if-prove.false c.if-prove-2.false c.if-prove-3.false
