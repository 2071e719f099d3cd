use Rattle.std.proofs.Common.{refl, sym, ◌∙◌, arith}
use Rattle.szg_build.specs.Shown.{plan_seen}
use Rattle.szg_build.proofs.Builders.PackedLaws.{packed_are_valid}
use Rattle.szg_build.proofs.Builders.TableLaws.{parts_as, sizes_as}
use Rattle.szg_build.proofs.reading.packed_dump.are_complete.Goals as goal

pub returns : goal.returns
returns c = λ e.
    let plan = c.args.plan.now in
    let parts = parts_as plan.material plan.kind c.deref-2.result.now plan.parts.items c.deref-2.ensures.value c.in-Some.ensures.parts in
    let same = c.as_slice.ensures.value ∙ c.in-Some.ensures.sizes ∙ sizes_as plan.material plan.kind c.deref-2.result.now plan.parts.items c.deref-2.ensures.value in
    packed_are_valid c.requires.0 (plan_seen plan) c.args.packed.now c.as_slice.result.now c.requires.1 parts same (c.if-not-have_sizes.ensures refl) (sym c.if-not-are_bits_valid.ensures)
    (omega arith) (sym c.are_maps_valid.ensures ∙ e)
