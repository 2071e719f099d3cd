use Rattle.std.proofs.Common.{◌≡◌, ◌+◌, ◌<◌, suc, ℕ, List, ◌++◌, drop, flat_map, length, take, ap, sym, ◌∙◌, arith, Option, Some, None}
use Rattle.std.specs.Prelude.{IsSomeAnd}
use Rattle.std.proofs.lemmas.List.{take_all}
use Rattle.std.proofs.lemmas.Result.{IfOk-at_ok, err_from_is_err_and}
use Rattle.szg_values.specs.declared.Kind.{Kind}
use Rattle.szg_file.specs.Contents.{Slot, Subtable}
use Rattle.szg_file.specs.Values.{values_of}
use Rattle.szg_build.specs.Built.{subtables_in}
use Rattle.szg_build.specs.Stored.{shown_values}
use Rattle.szg_build.proofs.Builders.PlaceLaws.{place_at, place_count}
use Rattle.szg_build.proofs.Writers.StreamSteps.{goes_as, goes_none, goes_then}
use Rattle.szg_build.proofs.Writers.TableDumps.{values_begun, values_more}
use Rattle.szg_build.proofs.writing.table_dump.put_subtables.Goals as goal

none_there : (x : Slot × Subtable) → None ≡ Some x → ⊥
none_there x e = cc e

-- the values of a subtable that is there
parsed_values : (kind : Kind) (list : List ℕ) {o : Option (Slot × Subtable)} {x : Slot × Subtable} → o ≡ Some x → IsSomeAnd o (λ found. list ≡ values_of kind found) → list ≡ values_of kind x
parsed_values kind list {o = None} e h = absurd h
parsed_values kind list {o = Some y} {x = x} e h = let same : y ≡ x = cc e in h ∙ ap (values_of kind) same

pub places-init : goal.places-init
places-init g c = goes_none g.W.Output c.args.sink.now c.args.output.now

pub unreachable-requires : goal.unreachable-requires
unreachable-requires g c =
    let at = place_at c.args.table.now.contents c.table_subtable_ids-place-items.result.now c.places.place-index (0, 0) c.table_subtable_ids-place-items.ensures c.places-test.true in
    let none = rw c.in_default.is at c.stored_values.ensures in
    none_there _ (sym none ∙ at)

pub places-preserved : goal.places-preserved
places-preserved g c =
    let t = c.args.table.now.contents in
    let i = c.places.place-index in
    let at = place_at t c.table_subtable_ids-place-items.result.now i (0, 0) c.table_subtable_ids-place-items.ensures c.places-test.true in
    let below : i < length (subtables_in t) = omega (arith, place_count t c.table_subtable_ids-place-items.result.now c.table_subtable_ids-place-items.ensures, c.places-test.true) in
    let here = shown_values c.in-Some.stored in
    let stated = parsed_values t.kind here at c.in-Some.ensures in
    let before = flat_map (values_of t.kind) (take i (subtables_in t)) in
    goes_as (before ++ here) (flat_map (values_of t.kind) (take (i + 1) (subtables_in t)))
    (ap (λ (z : List ℕ). before ++ z) stated ∙ values_more (values_of t.kind) (subtables_in t) i below)
    (goes_then before here c.places.invariant (IfOk-at_ok _ c.in-Ok.is c.in_ok-put_stored.ensures.goes))

pub returns-in_err-put_stored-clause-memory : goal.returns-in_err-put_stored-clause-memory
returns-in_err-put_stored-clause-memory g c =
    let t = c.args.table.now.contents in
    let i = c.places.place-index in
    let at = place_at t c.table_subtable_ids-place-items.result.now i (0, 0) c.table_subtable_ids-place-items.ensures c.places-test.true in
    let below : i < length (subtables_in t) = omega (arith, place_count t c.table_subtable_ids-place-items.result.now c.table_subtable_ids-place-items.ensures, c.places-test.true) in
    let stated = parsed_values t.kind (shown_values c.in-Some.stored) at c.in-Some.ensures in
    let before = flat_map (values_of t.kind) (take i (subtables_in t)) in
    let p = err_from_is_err_and c.from_residual.result c.from_residual.ensures.1 in
    let begun = c.in_err-put_stored.ensures.memory in
    rw (p.1) (
      before ++ begun.0,
      begun.1 ++ flat_map (values_of t.kind) (drop (suc i) (subtables_in t)),
      values_begun (values_of t.kind) (subtables_in t) i begun.0 begun.1 below (begun.2 ∙ stated),
      goes_then before begun.0 c.places.invariant begun.3,
    )

pub returns-clause-goes : goal.returns-clause-goes
returns-clause-goes g c =
    let t = c.args.table.now.contents in
    let all = take_all c.places.place-index (subtables_in t) (omega (arith, place_count t c.table_subtable_ids-place-items.result.now c.table_subtable_ids-place-items.ensures, c.places-test.false)) in
    goes_as (flat_map (values_of t.kind) (take c.places.place-index (subtables_in t))) (flat_map (values_of t.kind) (subtables_in t)) (ap (flat_map (values_of t.kind)) all) c.places.invariant
