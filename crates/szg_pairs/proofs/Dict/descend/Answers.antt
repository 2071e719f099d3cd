use Rattle.std.proofs.Common.{sym, ◌∙◌, ap, refl, arith, Some}
use Rattle.szg_pairs.proofs.Descending.{node_read, value_found, down_left, down_right, pairs_found, few_pairs, opened}
use Rattle.szg_pairs.proofs.Dict.descend.Goals as goal

pub returns-then-is_leaf-clause-value : goal.returns-then-is_leaf-clause-value
returns-then-is_leaf-clause-value c =
    let n = node_read _ c.self.invariant refl _ _ c.loop-self.invariant.there c.index-node.ensures in
    let h = value_found _ c.self.invariant.dictionary _ _ _ _ _ _ c.loop-self.invariant n.at (sym n.leaf ∙ sym c.is_leaf.ensures ∙ c.if-is_leaf.true) in
    rw (sym c.self.view_is) (h ∙ ap Some (sym n.left))

pub returns-then-is_leaf-clause-pairs : goal.returns-then-is_leaf-clause-pairs
returns-then-is_leaf-clause-pairs c =
    let n = node_read _ c.self.invariant refl _ _ c.loop-self.invariant.there c.index-node.ensures in
    let inside = opened _ _ _ _ c.self.view_is c.requires.there c.requires.within in
    let h = pairs_found _ c.self.invariant.dictionary _ _ _ _ _ _ inside.0 inside.1 c.loop-self.invariant n.at (sym n.leaf ∙ sym c.is_leaf.ensures ∙ c.if-is_leaf.true) in
    rw (sym c.self.view_is) h.0

pub returns-then-is_leaf-clause-at_most : goal.returns-then-is_leaf-clause-at_most
returns-then-is_leaf-clause-at_most c =
    let n = node_read _ c.self.invariant refl _ _ c.loop-self.invariant.there c.index-node.ensures in
    let inside = opened _ _ _ _ c.self.view_is c.requires.there c.requires.within in
    let h = pairs_found _ c.self.invariant.dictionary _ _ _ _ _ _ inside.0 inside.1 c.loop-self.invariant n.at (sym n.leaf ∙ sym c.is_leaf.ensures ∙ c.if-is_leaf.true) in
    h.1

pub overflow_add-pairs : goal.overflow_add-pairs
overflow_add-pairs c =
    let inside = opened _ _ _ _ c.self.view_is c.requires.there c.requires.within in
    let few = few_pairs _ c.self.invariant.dictionary _ _ inside.0 inside.1 in
    omega (arith, few, c.loop-self.invariant.deep)

pub loop-self-smaller-then-rest-node : goal.loop-self-smaller-then-rest-node
loop-self-smaller-then-rest-node c =
    let n = node_read _ c.self.invariant refl _ _ c.loop-self.invariant.there c.index-node.ensures in
    let paired = sym n.leaf ∙ sym c.is_leaf.ensures ∙ c.if-is_leaf.false in
    (down_left _ c.self.invariant.dictionary _ _ _ _ _ _ _ _ c.loop-self.invariant n.at paired n.left (n.split paired) c.if-rest-node.true).1

pub loop-self-preserved-then-rest-node : goal.loop-self-preserved-then-rest-node
loop-self-preserved-then-rest-node c =
    let n = node_read _ c.self.invariant refl _ _ c.loop-self.invariant.there c.index-node.ensures in
    let paired = sym n.leaf ∙ sym c.is_leaf.ensures ∙ c.if-is_leaf.false in
    (down_left _ c.self.invariant.dictionary _ _ _ _ _ _ _ _ c.loop-self.invariant n.at paired n.left (n.split paired) c.if-rest-node.true).0

pub loop-self-smaller : goal.loop-self-smaller
loop-self-smaller c =
    let n = node_read _ c.self.invariant refl _ _ c.loop-self.invariant.there c.index-node.ensures in
    let paired = sym n.leaf ∙ sym c.is_leaf.ensures ∙ c.if-is_leaf.false in
    (down_right _ c.self.invariant.dictionary _ _ _ _ _ _ _ _ c.loop-self.invariant n.at paired n.right (n.split paired) c.if-rest-node.false).1

pub loop-self-preserved : goal.loop-self-preserved
loop-self-preserved c =
    let n = node_read _ c.self.invariant refl _ _ c.loop-self.invariant.there c.index-node.ensures in
    let paired = sym n.leaf ∙ sym c.is_leaf.ensures ∙ c.if-is_leaf.false in
    (down_right _ c.self.invariant.dictionary _ _ _ _ _ _ _ _ c.loop-self.invariant n.at paired n.right (n.split paired) c.if-rest-node.false).0
