use Rattle.std.proofs.Common.{◌<◌, ◌^◌, List, ℕ, map, refl, sym, subst, ◌∙◌, Ok, Err}
use Rattle.std.specs.List.{AllByRecursion}
use Rattle.std.proofs.lemmas.Result.{err_from_is_err_and}
use Rattle.szg_build.specs.declared.BuildFault.TheVariants as fault
use Rattle.szg_build.specs.Plan.{build_fault}
use Rattle.szg_build.specs.Shown.{plan_seen}
use Rattle.szg_build.proofs.Builders.TableLaws.{order_parsed, all_are_valid, refused_as, passed_as, no_fault, no_parts, valid_as, bytes_as, parts_as, sizes_as}
use Rattle.szg_build.proofs.table.build_by.Goals as goal

pub returns-in_default-clause-refused : goal.returns-in_default-clause-refused
returns-in_default-clause-refused g c =
    let plan = plan_seen c.args.plan.now in
    let lists = map (λ list. list.now) c.args.lists.now in
    refused_as (Err fault.Order) (build_fault plan lists) fault.Order
    (order_parsed plan lists (bytes_as c.deref.result.now c.args.plan.now.parts.items c.deref.ensures.value c.parts_fit.ensures)
    (no_parts c.args.plan.now.material c.args.plan.now.kind c.deref-2.result.now c.args.plan.now.parts.items c.deref-2.ensures.value c.subtable_sizes.result c.in_default.not-Some c.subtable_sizes.ensures.none)) refl

pub returns-in-Some-first_fault-clause-refused : goal.returns-in-Some-first_fault-clause-refused
returns-in-Some-first_fault-clause-refused g c =
    let plan = plan_seen c.args.plan.now in
    let lists = map (λ list. list.now) c.args.lists.now in
    let same = c.as_slice.ensures.value ∙ c.in-Some.ensures.sizes in
    refused_as (Err c.in-Some-first_fault.fault) (build_fault plan lists) c.in-Some-first_fault.fault
    (valid_as plan lists c.as_slice.result.now c.deref-2.result.now c.args.plan.now.parts.items c.deref-2.ensures.value refl c.in-Some.ensures.parts same ∙ sym c.in-Some-first_fault.ensures) refl

pub build_subs-requires-clause-is_valid : goal.build_subs-requires-clause-is_valid
build_subs-requires-clause-is_valid g c =
    let plan = plan_seen c.args.plan.now in
    let lists = map (λ list. list.now) c.args.lists.now in
    let parts = parts_as c.args.plan.now.material c.args.plan.now.kind c.deref-2.result.now c.args.plan.now.parts.items c.deref-2.ensures.value c.in-Some.ensures.parts in
    let same = c.as_slice.ensures.value ∙ c.in-Some.ensures.sizes ∙ sizes_as c.args.plan.now.material c.args.plan.now.kind c.deref-2.result.now c.args.plan.now.parts.items c.deref-2.ensures.value in
    all_are_valid plan lists c.as_slice.result.now parts same (subst (λ (z : List ℕ). AllByRecursion (λ size. size < 2 ^ 33) z) (sym c.as_slice.ensures.value) c.in-Some.ensures.fits)
    (sym c.first_fault.ensures ∙ no_fault c.first_fault.result c.in_default-first_fault.not-Some)

pub table_from-requires : goal.table_from-requires
table_from-requires g c = (c.args.choice, map (λ list. list.now) c.args.lists.now, c.in_ok-subs.ensures)

pub returns-in_err-subs-clause-refused : goal.returns-in_err-subs-clause-refused
returns-in_err-subs-clause-refused g c =
    let p = err_from_is_err_and c.from_residual.result c.from_residual.ensures.1 in
    let plan = plan_seen c.args.plan.now in
    let lists = map (λ list. list.now) c.args.lists.now in
    let same = c.as_slice.ensures.value ∙ c.in-Some.ensures.sizes in
    rw (p.1, p.2) (passed_as (Err fault.Memory) (build_fault plan lists)
    (valid_as plan lists c.as_slice.result.now c.deref-2.result.now c.args.plan.now.parts.items c.deref-2.ensures.value refl c.in-Some.ensures.parts same
    ∙ sym c.first_fault.ensures ∙ no_fault c.first_fault.result c.in_default-first_fault.not-Some) refl)

pub returns-in_err-table_from-clause-refused : goal.returns-in_err-table_from-clause-refused
returns-in_err-table_from-clause-refused g c =
    let p = err_from_is_err_and c.from_residual-in_err-table_from.result c.from_residual-in_err-table_from.ensures.1 in
    let plan = plan_seen c.args.plan.now in
    let lists = map (λ list. list.now) c.args.lists.now in
    let same = c.as_slice.ensures.value ∙ c.in-Some.ensures.sizes in
    rw (p.1, p.2) (passed_as (Err fault.Memory) (build_fault plan lists)
    (valid_as plan lists c.as_slice.result.now c.deref-2.result.now c.args.plan.now.parts.items c.deref-2.ensures.value refl c.in-Some.ensures.parts same
    ∙ sym c.first_fault.ensures ∙ no_fault c.first_fault.result c.in_default-first_fault.not-Some) refl)

pub returns-clause-refused : goal.returns-clause-refused
returns-clause-refused g c =
    let plan = plan_seen c.args.plan.now in
    let lists = map (λ list. list.now) c.args.lists.now in
    let same = c.as_slice.ensures.value ∙ c.in-Some.ensures.sizes in
    passed_as (Ok c.in_ok-table_from.field-0) (build_fault plan lists)
    (valid_as plan lists c.as_slice.result.now c.deref-2.result.now c.args.plan.now.parts.items c.deref-2.ensures.value refl c.in-Some.ensures.parts same
    ∙ sym c.first_fault.ensures ∙ no_fault c.first_fault.result c.in_default-first_fault.not-Some) tt

pub returns-clause-built : goal.returns-clause-built
returns-clause-built g c = c.in_ok-table_from.ensures.built c.args.choice (map (λ list. list.now) c.args.lists.now) c.in_ok-subs.ensures
