use Rattle.std.proofs.Common.{ℕ, suc, ◌+◌, ◌-◌, ◌*◌, [], ◌∷◌, ◌++◌, length, map, option_map, ap, refl, ◌∙◌, arith}
use Rattle.std.proofs.lemmas.Result.{err_from_is_err_and}
use Rattle.szg_file.specs.Held.{part_of}
use Rattle.szg_build.specs.Dump.{subtable_ids_of}
use Rattle.szg_build.specs.Plan.{sizes_if_valid}
use Rattle.szg_build.specs.Wholes.{subtable_shown}
use Rattle.szg_build.specs.Packed.{gathered_dump}
use Rattle.szg_build.specs.Shown.{form_of}
use Rattle.szg_build.proofs.Readers.GoingLaws.{goes_unheld}
use Rattle.szg_build.proofs.Readers.WholeLaws.{are_more, none_read, same_dump, sizes_there, subs_begun, subs_more, subs_stopped, subs_ended}
use Rattle.szg_build.proofs.Readers.LackLaws.{lacks_here}
use Rattle.szg_build.proofs.Readers.LeastLaws.{asks_subs_left, lacks_subs}
use Rattle.szg_build.proofs.Builders.PackedLaws.{none_packed}
use Rattle.szg_build.proofs.Readers.ReadingLaws.{same_error}
use Rattle.szg_build.proofs.reading.dumpreading.read_subs.Goals as goal

pub each-init : goal.each-init
each-init g c =
    let header = c.args.header in (
      [],
      none_read header.kind (record { flags = c.new.result; maps = c.new-2.result; packed = c.new-3.result; rest = c.new-4.result }) c.new.ensures.items c.new-2.ensures.items c.new-3.ensures.items c.new-4.ensures.items,
      subs_begun (form_of c.args.form) header.material header.kind header.last (map part_of header.parts.items),
      omega (arith, c.requires, ap length c.places-places.ensures.places),
      none_packed header.kind c.args.choice (record { flags = c.new.result; maps = c.new-2.result; packed = c.new-3.result; rest = c.new-4.result }) c.new.ensures.items c.new-3.ensures.items,
    )

pub returns-in_err-sub-clause-lines : goal.returns-in_err-sub-clause-lines
returns-in_err-sub-clause-lines g c =
    let p = err_from_is_err_and c.from_residual.result c.from_residual.ensures.1 in
    let header = c.args.header in
    let v = c.each.invariant in
    let sizes = sizes_there header.material header.kind (map part_of c.as_slice-parts.result.now) (λ list. list.items) c.subtable_sizes-sizes.result c.parts_fit.ensures
    c.subtable_sizes-sizes.ensures.none c.subtable_sizes-sizes.ensures.parts c.subtable_sizes-sizes.ensures.sizes
    ∙ ap (λ z. sizes_if_valid header.material header.kind (map part_of z)) c.as_slice-parts.ensures.value in
    rw (p.1, p.2) (subs_stopped (form_of c.args.form) header.material header.kind header.last (map part_of header.parts.items) v.0 c.each.s c.places-places.result.now
    (option_map (λ list. list.items) c.subtable_sizes-sizes.result) subtable_shown gathered_dump c.in_err-sub.field-0.0 (omega (arith, c.each-test.true)) c.places-places.ensures.places sizes v.2 c.in_err-sub.ensures.lines)

pub returns-in_err-add_sub-clause-lines : goal.returns-in_err-add_sub-clause-lines
returns-in_err-add_sub-clause-lines g c =
    let p = err_from_is_err_and c.from_residual-in_err-add_sub.result c.from_residual-in_err-add_sub.ensures.1 in
    let header = c.args.header in
    let v = c.each.invariant in
    let sizes = sizes_there header.material header.kind (map part_of c.as_slice-parts.result.now) (λ list. list.items) c.subtable_sizes-sizes.result c.parts_fit.ensures
    c.subtable_sizes-sizes.ensures.none c.subtable_sizes-sizes.ensures.parts c.subtable_sizes-sizes.ensures.sizes
    ∙ ap (λ z. sizes_if_valid header.material header.kind (map part_of z)) c.as_slice-parts.ensures.value in
    rw (p.1, p.2) (goes_unheld gathered_dump (subs_more (form_of c.args.form) header.material header.kind header.last (map part_of header.parts.items) v.0 c.each.s (suc c.each.s) c.places-places.result.now
    (option_map (λ list. list.items) c.subtable_sizes-sizes.result) subtable_shown c.in_ok-sub.sub refl (omega (arith, c.each-test.true)) c.places-places.ensures.places sizes v.2 c.in_ok-sub.ensures.lines))

pub each-preserved : goal.each-preserved
each-preserved g c =
    let header = c.args.header in
    let v = c.each.invariant in
    let sizes = sizes_there header.material header.kind (map part_of c.as_slice-parts.result.now) (λ list. list.items) c.subtable_sizes-sizes.result c.parts_fit.ensures
    c.subtable_sizes-sizes.ensures.none c.subtable_sizes-sizes.ensures.parts c.subtable_sizes-sizes.ensures.sizes
    ∙ ap (λ z. sizes_if_valid header.material header.kind (map part_of z)) c.as_slice-parts.ensures.value in (
      v.0 ++ subtable_shown c.in_ok-sub.sub ∷ [],
      are_more header.kind c.each.subs c.add_sub.new.subs v.0 c.in_ok-sub.sub c.in_ok-add_sub.ensures.flags c.in_ok-add_sub.ensures.maps c.in_ok-add_sub.ensures.lists v.1,
      subs_more (form_of c.args.form) header.material header.kind header.last (map part_of header.parts.items) v.0 c.each.s (c.each.s + 1) c.places-places.result.now
          (option_map (λ list. list.items) c.subtable_sizes-sizes.result) subtable_shown c.in_ok-sub.sub (omega arith) (omega (arith, c.each-test.true)) c.places-places.ensures.places sizes v.2 c.in_ok-sub.ensures.lines,
      omega (arith, c.in_ok-sub.ensures.following, c.each-test.true),
      c.in_ok-add_sub.ensures.packed,
    )

pub returns-clause-lines : goal.returns-clause-lines
returns-clause-lines g c =
    let header = c.args.header in
    let v = c.each.invariant in
    subs_ended (form_of c.args.form) header.material header.kind header.last (map part_of header.parts.items) v.0 c.each.s gathered_dump _
    (omega (arith, c.each-test.false, ap length c.places-places.ensures.places)) (same_dump header.material header.kind (map part_of header.parts.items) header.last c.each.subs v.0 v.1) v.2

pub returns-in_err-sub-clause-memory : goal.returns-in_err-sub-clause-memory
returns-in_err-sub-clause-memory g c =
    let p = err_from_is_err_and c.from_residual.result c.from_residual.ensures.1 in
    let header = c.args.header in
    let v = c.each.invariant in
    let sizes = sizes_there header.material header.kind (map part_of c.as_slice-parts.result.now) (λ list. list.items) c.subtable_sizes-sizes.result c.parts_fit.ensures
    c.subtable_sizes-sizes.ensures.none c.subtable_sizes-sizes.ensures.parts c.subtable_sizes-sizes.ensures.sizes
    ∙ ap (λ z. sizes_if_valid header.material header.kind (map part_of z)) c.as_slice-parts.ensures.value in
    rw (p.1, p.2) (λ e. lacks_subs (form_of c.args.form) header.material header.kind header.last (map part_of header.parts.items) v.0 c.each.s c.places-places.result.now
    (option_map (λ list. list.items) c.subtable_sizes-sizes.result) _ 0 (omega (arith, c.each-test.true)) c.places-places.ensures.places sizes (omega (arith, c.each-test.true)) v.2 (c.in_err-sub.ensures.memory (same_error e)))

pub returns-in_err-add_sub-clause-memory : goal.returns-in_err-add_sub-clause-memory
returns-in_err-add_sub-clause-memory g c =
    let p = err_from_is_err_and c.from_residual-in_err-add_sub.result c.from_residual-in_err-add_sub.ensures.1 in
    let header = c.args.header in
    let v = c.each.invariant in
    let sizes = sizes_there header.material header.kind (map part_of c.as_slice-parts.result.now) (λ list. list.items) c.subtable_sizes-sizes.result c.parts_fit.ensures
    c.subtable_sizes-sizes.ensures.none c.subtable_sizes-sizes.ensures.parts c.subtable_sizes-sizes.ensures.sizes
    ∙ ap (λ z. sizes_if_valid header.material header.kind (map part_of z)) c.as_slice-parts.ensures.value in
    let left : ℕ = 2 * (length (subtable_ids_of header.material header.kind) - suc c.each.s) in
    rw (p.1, p.2) (λ e. lacks_here 0 left (subs_more (form_of c.args.form) header.material header.kind header.last (map part_of header.parts.items) v.0 c.each.s (suc c.each.s) c.places-places.result.now
    (option_map (λ list. list.items) c.subtable_sizes-sizes.result) subtable_shown c.in_ok-sub.sub refl (omega (arith, c.each-test.true)) c.places-places.ensures.places sizes v.2 c.in_ok-sub.ensures.lines)
    (asks_subs_left (form_of c.args.form) header.material header.kind header.last (map part_of header.parts.items) (v.0 ++ subtable_shown c.in_ok-sub.sub ∷ []) (suc c.each.s) left (omega arith))
    (omega (arith, c.in_ok-sub.ensures.following, c.each-test.true, ap length c.places-places.ensures.places)))
