use Rattle.std.proofs.Common.{length, sym, ◌∙◌, arith}
use Rattle.szg_pairs.proofs.Walking.{parts_below}
use Rattle.szg_pairs.proofs.walk.length_of.Goals as goal

pub known-requires : goal.known-requires
known-requires c =
    let below = parts_below (length c.args.lengths.now) c.args.entry c.requires (sym c.is_leaf.ensures ∙ c.if-is_leaf.false) in
    omega (arith, below.0, c.left.ensures)

pub known-requires-2 : goal.known-requires-2
known-requires-2 c =
    let below = parts_below (length c.args.lengths.now) c.args.entry c.requires (sym c.is_leaf.ensures ∙ c.if-is_leaf.false) in
    omega (arith, below.1, c.right.ensures)
