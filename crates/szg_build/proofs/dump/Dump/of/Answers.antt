use Rattle.std.proofs.Common.{◌≡◌, ◌<◌, ℕ, List, Option, Some, length, map, ap, sym, subst, ◌∙◌, arith, rules, [], ◌∷◌}
use Rattle.std.specs.Prelude.{is_some, IfSome}
use Rattle.std.proofs.lemmas.Grind.{common_steps}
use Rattle.std.proofs.lemmas.List.{map-append, take_all}
use Rattle.szg_values.specs.declared.Kind.{Kind}
use Rattle.szg_file.specs.Contents.{Slot, Subtable}
use Rattle.szg_file.specs.Values.{values_of}
use Rattle.szg_build.specs.Built.{subtables_in}
use Rattle.szg_build.proofs.Builders.PlaceLaws.{place_at, place_count, pairs_more}
use Rattle.szg_build.proofs.dump.Dump.of.Goals as goal

-- the values of a subtable that is there
parsed_values : (kind : Kind) (list : List ℕ) {o : Option (Slot × Subtable)} {x : Slot × Subtable} → o ≡ Some x → IfSome o (λ found. list ≡ values_of kind found) → list ≡ values_of kind x
parsed_values kind list e h = subst (λ o. IfSome o (λ found. list ≡ values_of kind found)) e h

pub values-requires : goal.values-requires
values-requires c =
    ap is_some (place_at c.args.table.now.contents c.table_subtable_ids-place-items.result.now c.places.place-index (0, 0) c.table_subtable_ids-place-items.ensures c.places-test.true)

pub places-preserved : goal.places-preserved
places-preserved c =
    let t = c.args.table.now.contents in
    let i = c.places.place-index in
    let at = place_at t c.table_subtable_ids-place-items.result.now i (0, 0) c.table_subtable_ids-place-items.ensures c.places-test.true in
    let values = c.in_ok-values.values in
    let below : i < length (subtables_in t) = omega (arith, place_count t c.table_subtable_ids-place-items.result.now c.table_subtable_ids-place-items.ensures, c.places-test.true) in
    ap (map (λ list. list.items)) c.in_ok-push.ensures.items
    ∙ map-append (λ list. list.items) c.places.lists.items (values ∷ [])
    ∙ pairs_more (values_of t.kind) (subtables_in t) i (map (λ list. list.items) c.places.lists.items) values.items below c.places.invariant
    (parsed_values t.kind values.items at c.in_ok-values.ensures)

pub returns : goal.returns
returns c =
    let t = c.args.table.now.contents in
    let all = take_all c.places.place-index (subtables_in t) (omega (arith, place_count t c.table_subtable_ids-place-items.result.now c.table_subtable_ids-place-items.ensures, c.places-test.false)) in
    record {
      material = first_of (search rules, cc, grind (arith, common_steps));
      kind = first_of (search rules, cc, grind (arith, common_steps));
      parts = first_of (search rules, cc, grind (arith, common_steps));
      flags = first_of (search rules, cc, grind (arith, common_steps));
      maps = first_of (search rules, cc, grind (arith, common_steps));
      last = first_of (search rules, cc, grind (arith, common_steps));
      values = sym (c.places.invariant ∙ ap (map (values_of t.kind)) all);
    }
