use Rattle.std.proofs.Common.{◌∙◌, sym, refl}
use Rattle.szg_values.proofs.SideOf.{placed_few, no_fault, white_first, black_first}
use Rattle.szg_values.proofs.MaterialOf.{material_of_placement}
use Rattle.szg_values.proofs.Placement.material.Goals as goal
use Rattle.szg_values.proofs.Placement.material.Goals.{then-may_be_first, else-may_be_first}

pub side_of-white-requires : goal.side_of-white-requires
side_of-white-requires c = placed_few c.men-men.result.now (no_fault c.men-men.result.now c.men-men.ensures.no_fault)

pub side_of-black-requires : goal.side_of-black-requires
side_of-black-requires c = placed_few c.men-men.result.now (no_fault c.men-men.result.now c.men-men.ensures.no_fault)

pub returns : goal.returns
returns c =
    let men = c.men-men.result.now in
    let test = rw (c.as_slice.ensures.value, c.as_slice-2.ensures.value, c.side_of-white.ensures, c.side_of-black.ensures) at c.may_be_first.ensures in
    elim c.if-may_be_first.branch [
      | then-may_be_first w ↦ rw (w.first-is, ← c.men-men.ensures.men, white_first men (sym test ∙ w.if-may_be_first.true), c.side_of-white.ensures, c.side_of-black.ensures) refl
      | else-may_be_first w ↦ rw (w.first-is, ← c.men-men.ensures.men, black_first men (sym test ∙ w.if-may_be_first.false), c.side_of-white.ensures, c.side_of-black.ensures) refl
    ]

pub invariant_of-result : goal.invariant_of-result
invariant_of-result c =
    let men = c.men-men.result.now in
    let test = rw (c.as_slice.ensures.value, c.as_slice-2.ensures.value, c.side_of-white.ensures, c.side_of-black.ensures) at c.may_be_first.ensures in
    let material = material_of_placement men (no_fault men c.men-men.ensures.no_fault) in
    elim c.if-may_be_first.branch [
      | then-may_be_first w ↦ let m = rw (white_first men (sym test ∙ w.if-may_be_first.true)) at material in rw (w.first-is, c.side_of-white.ensures, c.side_of-black.ensures) m
      | else-may_be_first w ↦ let m = rw (black_first men (sym test ∙ w.if-may_be_first.false)) at material in rw (w.first-is, c.side_of-white.ensures, c.side_of-black.ensures) m
    ]
