use Rattle.std.proofs.Common.{◌<◌, length, map, sym, ◌∙◌, arith, refl}
use Rattle.std.proofs.lemmas.List.{length-map}
use Rattle.szg_pairs.specs.State.{entry_of}
use Rattle.szg_pairs.proofs.Expanding.{AllBelow-one, AllBelow-pop}
use Rattle.szg_pairs.proofs.Descending.{node_read, expand_leaf, expand_pair}
use Rattle.szg_pairs.proofs.Dict.expand.Goals as goal

pub loop-symbol-init : goal.loop-symbol-init
loop-symbol-init c =
    let there : c.args.s < length (map entry_of c.self.inside.nodes.items) = rw c.self.view_is c.requires in
    rw (c.in_ok-values.ensures.items, c.in_ok-push.ensures.items, c.new-waiting.ensures.items)
    (record { spelled_so_far = refl; there = AllBelow-one _ c.args.s there })

pub index-node-requires : goal.index-node-requires
index-node-requires c =
    let e = c.in-Some.ensures.items in
    let there = (AllBelow-pop _ _ _ (rw e at c.loop-symbol.invariant.there)).1 in
    omega (arith, there, length-map c.self.inside.nodes.items entry_of, c.self.inside.nodes.ok.0)

pub loop-symbol-smaller-in-Continue-branch-3 : goal.loop-symbol-smaller-in-Continue-branch-3
loop-symbol-smaller-in-Continue-branch-3 c =
    let there = (AllBelow-pop _ _ _ (rw c.in-Some.ensures.items at c.loop-symbol.invariant.there)).1 in
    let n = node_read _ c.self.invariant refl _ _ there c.index-node.ensures in
    let h = expand_leaf _ c.self.invariant.dictionary _ _ _ _ _ _ _ _ c.loop-symbol.invariant.spelled_so_far c.loop-symbol.invariant.there c.in-Some.ensures.items n.at (sym n.leaf ∙ sym c.is_leaf.ensures ∙ c.if-is_leaf.true) n.left c.in_ok-push-2.ensures.items in
    h.2

pub loop-symbol-preserved-in-Continue-branch-3 : goal.loop-symbol-preserved-in-Continue-branch-3
loop-symbol-preserved-in-Continue-branch-3 c =
    let there = (AllBelow-pop _ _ _ (rw c.in-Some.ensures.items at c.loop-symbol.invariant.there)).1 in
    let n = node_read _ c.self.invariant refl _ _ there c.index-node.ensures in
    let h = expand_leaf _ c.self.invariant.dictionary _ _ _ _ _ _ _ _ c.loop-symbol.invariant.spelled_so_far c.loop-symbol.invariant.there c.in-Some.ensures.items n.at (sym n.leaf ∙ sym c.is_leaf.ensures ∙ c.if-is_leaf.true) n.left c.in_ok-push-2.ensures.items in
    record { spelled_so_far = h.0; there = h.1 }

pub loop-symbol-smaller : goal.loop-symbol-smaller
loop-symbol-smaller c =
    let there = (AllBelow-pop _ _ _ (rw c.in-Some.ensures.items at c.loop-symbol.invariant.there)).1 in
    let n = node_read _ c.self.invariant refl _ _ there c.index-node.ensures in
    let h = expand_pair _ c.self.invariant.dictionary _ _ _ _ _ _ _ _ _ _ c.loop-symbol.invariant.spelled_so_far c.loop-symbol.invariant.there c.in-Some.ensures.items n.at (sym n.leaf ∙ sym c.is_leaf.ensures ∙ c.if-is_leaf.false) n.left n.right c.in_ok-push-3.ensures.items c.in_ok-push-4.ensures.items in
    h.2

pub loop-symbol-preserved : goal.loop-symbol-preserved
loop-symbol-preserved c =
    let there = (AllBelow-pop _ _ _ (rw c.in-Some.ensures.items at c.loop-symbol.invariant.there)).1 in
    let n = node_read _ c.self.invariant refl _ _ there c.index-node.ensures in
    let h = expand_pair _ c.self.invariant.dictionary _ _ _ _ _ _ _ _ _ _ c.loop-symbol.invariant.spelled_so_far c.loop-symbol.invariant.there c.in-Some.ensures.items n.at (sym n.leaf ∙ sym c.is_leaf.ensures ∙ c.if-is_leaf.false) n.left n.right c.in_ok-push-3.ensures.items c.in_ok-push-4.ensures.items in
    record { spelled_so_far = h.0; there = h.1 }
