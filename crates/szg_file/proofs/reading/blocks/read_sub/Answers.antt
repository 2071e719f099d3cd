use Rattle.std.proofs.Common.{◌≡◌, ap, None, refl}
use Rattle.std.proofs.lemmas.Result.{err_from_is_err_and}
use Rattle.szg_block.specs.Subtable.{layout_of}
use Rattle.szg_file.specs.Contents.{Slot}
use Rattle.szg_file.specs.Held.{subtable_of}
use Rattle.szg_file.specs.Blocks.{with_blocks}
use Rattle.szg_file.proofs.Readers.BlockReads.{constant_blocks, reads_sub, reads_fill_stopped, reads_sub_stopped}
use Rattle.szg_file.proofs.Readers.ReadingLaws.{reads_nothing}
use Rattle.szg_file.proofs.reading.blocks.read_sub.Goals.{in-Pairs, in_default}
use Rattle.szg_file.proofs.reading.blocks.read_sub.Goals as goal

pub returns-then-is_constant-clause-blocks : goal.returns-then-is_constant-clause-blocks
returns-then-is_constant-clause-blocks g c =
    let m = c.measured.inside in
    let none : layout_of m.sub ≡ None = c.is_constant.ensures.0 c.if-is_constant.true in
    rw (← c.measured.view_is) (reads_nothing _ subtable_of m.sub (constant_blocks m.slot m.sub none))

pub returns-in_err-take_fill-clause-blocks : goal.returns-in_err-take_fill-clause-blocks
returns-in_err-take_fill-clause-blocks g c =
    let p = err_from_is_err_and c.from_residual.result c.from_residual.ensures.1 in
    let m = c.measured.inside in
    let some : layout_of m.sub ≡ None → ⊥ = λ e. let t = c.is_constant.ensures.1 e in cc in
    rw (p.1, p.2, ← c.measured.view_is) (reads_fill_stopped m.slot m.sub c.in_err-take_fill.field-0.0 some c.in_err-take_fill.ensures.fill)

pub returns-in_err-taken-clause-blocks : goal.returns-in_err-taken-clause-blocks
returns-in_err-taken-clause-blocks g c =
    let p = err_from_is_err_and c.from_residual-in_err-taken.result c.from_residual-in_err-taken.ensures.1 in
    let m = c.measured.inside in
    let sized : c.slot.inside.size ≡ m.slot.size = ap (λ (s : Slot). s.size) c.slot.view_is in
    let some : layout_of m.sub ≡ None → ⊥ = λ e. let t = c.is_constant.ensures.1 e in cc in
    let taken = rw c.expect.ensures.same at c.in_err-taken.ensures.blocks in
    rw (p.1, p.2, ← c.measured.view_is) (reads_sub_stopped m.slot c.slot.inside.size m.sub c.in_err-taken.field-0.0 sized some c.in_ok-take_fill.ensures.fill taken)

pub returns-clause-blocks : goal.returns-clause-blocks
returns-clause-blocks g c =
    let m = c.measured.inside in
    let sized : c.slot.inside.size ≡ m.slot.size = ap (λ (s : Slot). s.size) c.slot.view_is in
    let some : layout_of m.sub ≡ None → ⊥ = λ e. let t = c.is_constant.ensures.1 e in cc in
    let held : subtable_of c.match-sub-3.sub ≡ with_blocks (subtable_of m.sub) c.in_ok-taken.taken.items =
    elim c.match-sub-3.branch [
      | in-Pairs w ↦ rw (w.sub-is, w.in-Pairs.is) refl
      | in_default w ↦ rw (w.sub-is, w.in_default.is) refl
    ] in
    let taken = rw c.expect.ensures.same at c.in_ok-taken.ensures.blocks in
    rw (← c.measured.view_is) (reads_sub m.slot c.slot.inside.size m.sub c.match-sub-3.sub c.in_ok-taken.taken sized some held c.in_ok-take_fill.ensures.fill taken)
