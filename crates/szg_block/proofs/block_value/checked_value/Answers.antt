use Rattle.std.proofs.Common.{refl, sym, arith}
use Rattle.szg_block.specs.Subtable.{layout_of, layout_from}
use Rattle.szg_block.proofs.Parts.{needed_spelled, spelled_needed}
use Rattle.szg_block.proofs.BlockValueLaws.{held_at, held_before, held_within, spelled_at}
use Rattle.szg_block.proofs.block_value.checked_value.Goals as goal

pub overflow_sub-i : goal.overflow_sub-i
overflow_sub-i c =
    held_within c.args.size c.args.i c.args.location.block c.args.location.item (layout_of c.args.sub.now)
    (held_at (layout_of c.args.sub.now) c.args.size c.args.i c.args.location.block c.args.location.item c.requires.index c.requires.below c.requires.at_block c.requires.at_item)

pub needed_in-needed-requires : goal.needed_in-needed-requires
needed_in-needed-requires c =
    record {
      before = held_before c.args.size c.args.i c.args.location.block c.args.location.item (layout_of c.args.sub.now)
          (held_at (layout_of c.args.sub.now) c.args.size c.args.i c.args.location.block c.args.location.item c.requires.index c.requires.below c.requires.at_block c.requires.at_item);
    }

pub find_verified-requires-clause-within : goal.find_verified-requires-clause-within
find_verified-requires-clause-within c =
    let needs = rw c.in-Pairs.is at c.needed_in-needed.ensures.needed in
    let held = rw c.in-Pairs.is at (held_at (layout_of c.args.sub.now) c.args.size c.args.i c.args.location.block c.args.location.item c.requires.index c.requires.below c.requires.at_block c.requires.at_item) in
    omega (arith, needs, held.inside)

pub returns-in-Some-clause-verified : goal.returns-in-Some-clause-verified
returns-in-Some-clause-verified c =
    let layout = layout_from c.in-Pairs.block_bits c.in-Pairs.span_bits c.in-Pairs.extra c.in-Pairs.blocks c.in-Pairs.code c.in-Pairs.dict c.in-Pairs.sparse.items c.in-Pairs.lengths.items in
    let needs = rw c.in-Pairs.is at c.needed_in-needed.ensures.needed in
    let enough = c.in-Some.ensures.enough in
    let at = rw c.in-Pairs.is at c.requires.at_block in
    rw (c.in-Pairs.is, ← at) (needed_spelled layout c.args.size c.args.location.block c.args.block.now (omega (arith, needs, enough)))

pub returns-in-Some-clause-value : goal.returns-in-Some-clause-value
returns-in-Some-clause-value c =
    let item = rw c.in-Pairs.is at c.requires.at_item in
    rw c.in-Pairs.is (sym (spelled_at _ _ _ _ c.args.location.item item c.in-Some.ensures.value))

pub returns-in-None-clause-fault : goal.returns-in-None-clause-fault
returns-in-None-clause-fault c =
    let layout = layout_from c.in-Pairs.block_bits c.in-Pairs.span_bits c.in-Pairs.extra c.in-Pairs.blocks c.in-Pairs.code c.in-Pairs.dict c.in-Pairs.sparse.items c.in-Pairs.lengths.items in
    let needs = rw c.in-Pairs.is at c.needed_in-needed.ensures.needed in
    let at = rw c.in-Pairs.is at c.requires.at_block in
    rw (c.in-Pairs.is, ← at) (refl, λ h. c.in-None.ensures.few (omega (arith, needs, spelled_needed layout c.args.size c.args.location.block c.args.block.now c.symbols.ensures.accepted h)))
