use Rattle.std.proofs.Common.{refl, sym, subst}
use Rattle.std.specs.Prelude.{IfOk}
use Rattle.szg_subtable.specs.declared.building.Choice.{Choice}
use Rattle.szg_subtable.specs.PackedSubtable.{IsInBounds, IsPackedSub}
use Rattle.szg_subtable.proofs.Builders.MadeLaws.{fixed_is_packed, small_is_packed, if_both}
use Rattle.szg_subtable.proofs.building.pack.Goals as goal

pub returns-in_ok-paired-in-Fixed : goal.returns-in_ok-paired-in-Fixed
returns-in_ok-paired-in-Fixed g c =
    subst (λ (z : Choice). IfOk c.build_paired.result (IsPackedSub c.args.values.now c.args.flags z)) (sym c.in-Fixed.is)
    (if_both c.build_paired.result
    (λ sub made code. fixed_is_packed c.args.values.now c.args.flags c.in-Fixed.packing sub c.requires.some (subst IsInBounds c.in-Fixed.is c.requires.choice) made code)
    c.build_paired.ensures.made (c.build_paired.ensures.code refl))

pub returns-in_ok-sizes-in-Small : goal.returns-in_ok-sizes-in-Small
returns-in_ok-sizes-in-Small g c =
    let sizes = c.in_ok-sizes-in-Small in
    subst (λ (z : Choice). IfOk c.build_paired-in-Small.result (IsPackedSub c.args.values.now c.args.flags z)) (sym c.in-Small.is)
    (if_both c.build_paired-in-Small.result
    (λ sub made _. small_is_packed c.args.values.now c.args.flags sizes.sizes.block_bits sizes.sizes.span_bits c.count_pairs_in.result sub c.requires.some
    sizes.ensures.least_block sizes.ensures.most_block sizes.ensures.least_span sizes.ensures.most_span made)
    c.build_paired-in-Small.ensures.made c.build_paired-in-Small.ensures.made)
