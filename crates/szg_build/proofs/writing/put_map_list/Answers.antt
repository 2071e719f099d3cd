use Rattle.std.proofs.Common.{ℕ, List, [], ◌∷◌, length, map, ap, sym, ◌∙◌, arith}
use Rattle.std.proofs.lemmas.List.{length-map}
use Rattle.std.proofs.lemmas.Result.{err_from_is_err_and}
use Rattle.std.specs.Prelude.{codes}
use Rattle.std.specs.Fmt.{decimal}
use Rattle.szg_build.specs.Text.{line_text, lines_text}
use Rattle.szg_build.proofs.Writers.WritingLaws.{value_line, lines_of_items, writes_next, writes_next_stopped, writes_all, writes_then, writes_stopped, writes_as}
use Rattle.szg_build.proofs.writing.put_map_list.Goals as goal

abbrev count_line : ℕ → ℕ → List ℕ
count_line j count = line_text (codes "map" ∷ decimal j ∷ decimal count ∷ [])

abbrev item_lines : List ℕ → List ℕ
item_lines numbers = lines_text (map (λ v. decimal v ∷ []) numbers)

pub returns-in_err-put_pair : goal.returns-in_err-put_pair
returns-in_err-put_pair g c =
    let p = err_from_is_err_and c.from_residual.result c.from_residual.ensures.1 in
    let numbers = map g.T.Item.number c.args.list.now in
    rw (p.1, p.2) (writes_stopped (count_line c.args.j (length numbers)) (item_lines numbers) c.in_err-put_pair.field-0.0
    (writes_as (ap (count_line c.args.j) (length-map c.args.list.now g.T.Item.number)) c.in_err-put_pair.ensures))

pub items-preserved : goal.items-preserved
items-preserved g c =
    writes_next (λ item. value_line (g.T.Item.number item)) c.args.list.now c.items.item-index c.item-item.result c.in_ok-put_number.field-0 c.items-test.true c.items.invariant
    (writes_as (ap (λ item. value_line (g.T.Item.number item)) (sym c.item-item.is) ∙ ap value_line (sym c.number.ensures)) c.in_ok-put_number.ensures)

pub returns-in_err-put_number : goal.returns-in_err-put_number
returns-in_err-put_number g c =
    let p = err_from_is_err_and c.from_residual-in_err-put_number.result c.from_residual-in_err-put_number.ensures.1 in
    let numbers = map g.T.Item.number c.args.list.now in
    rw (p.1, p.2) (writes_then (count_line c.args.j (length numbers)) (item_lines numbers) c.in_ok-put_pair.field-0
    (writes_as (ap (count_line c.args.j) (length-map c.args.list.now g.T.Item.number)) c.in_ok-put_pair.ensures)
    (writes_as (lines_of_items g.T.Item.number c.args.list.now)
    (writes_next_stopped (λ item. value_line (g.T.Item.number item)) c.args.list.now c.items.item-index c.item-item.result c.in_err-put_number.field-0.0 c.items-test.true c.items.invariant
    (writes_as (ap (λ item. value_line (g.T.Item.number item)) (sym c.item-item.is) ∙ ap value_line (sym c.number.ensures)) c.in_err-put_number.ensures))))

pub returns : goal.returns
returns g c =
    let numbers = map g.T.Item.number c.args.list.now in
    writes_then (count_line c.args.j (length numbers)) (item_lines numbers) c.in_ok-put_pair.field-0
    (writes_as (ap (count_line c.args.j) (length-map c.args.list.now g.T.Item.number)) c.in_ok-put_pair.ensures)
    (writes_as (lines_of_items g.T.Item.number c.args.list.now)
    (writes_all (λ item. value_line (g.T.Item.number item)) c.args.list.now c.items.item-index (omega arith) c.items.invariant))
