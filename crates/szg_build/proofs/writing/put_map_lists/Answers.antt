use Rattle.std.proofs.Common.{◌<◌, [], ◌∷◌, length, map, ap, sym, ◌∙◌, arith}
use Rattle.std.proofs.lemmas.List.{length-map}
use Rattle.std.proofs.lemmas.Result.{err_from_is_err_and}
use Rattle.szg_build.specs.Text.{lines_text, map_list_lines}
use Rattle.szg_build.proofs.Writers.ItemLaws.{list_parsed}
use Rattle.szg_build.proofs.Writers.WritingLaws.{writes_beside, writes_beside_stopped, writes_beside_all, writes_as}
use Rattle.szg_build.proofs.writing.put_map_lists.Goals as goal

pub lists-preserved : goal.lists-preserved
lists-preserved g c =
    let number = g.T.Item.number in
    let lists = c.args.lists.now in
    let there : c.lists.j < length lists = omega (arith, c.type_inv.lists, c.lists-test.true) in
    writes_beside map_list_lines (0 ∷ 1 ∷ 2 ∷ 3 ∷ []) (map (λ list. map number list.items) lists) c.lists.j 0 [] c.in_ok-put_map_list.field-0 (omega (arith, c.lists-test.true)) (omega (arith, length-map lists (λ list. map number list.items), there)) c.lists.invariant
    (writes_as (list_parsed (λ list. map number list.items) lists c.lists.j c.index-lists-j.result (omega (arith, c.lists-test.true)) there c.index-lists-j.is
    ∙ ap (λ items. lines_text (map_list_lines c.lists.j (map number items))) (sym c.deref.ensures.value)) c.in_ok-put_map_list.ensures)

pub returns-in_err-put_map_list : goal.returns-in_err-put_map_list
returns-in_err-put_map_list g c =
    let p = err_from_is_err_and c.from_residual.result c.from_residual.ensures.1 in
    let number = g.T.Item.number in
    let lists = c.args.lists.now in
    let there : c.lists.j < length lists = omega (arith, c.type_inv.lists, c.lists-test.true) in
    rw (p.1, p.2) (writes_beside_stopped map_list_lines (0 ∷ 1 ∷ 2 ∷ 3 ∷ []) (map (λ list. map number list.items) lists) c.lists.j 0 [] c.in_err-put_map_list.field-0.0 (omega (arith, c.lists-test.true)) (omega (arith, length-map lists (λ list. map number list.items), there)) c.lists.invariant
    (writes_as (list_parsed (λ list. map number list.items) lists c.lists.j c.index-lists-j.result (omega (arith, c.lists-test.true)) there c.index-lists-j.is
    ∙ ap (λ items. lines_text (map_list_lines c.lists.j (map number items))) (sym c.deref.ensures.value)) c.in_err-put_map_list.ensures))

pub returns : goal.returns
returns g c =
    writes_beside_all map_list_lines (0 ∷ 1 ∷ 2 ∷ 3 ∷ []) (map (λ list. map g.T.Item.number list.items) c.args.lists.now) c.lists.j (omega (arith, c.lists-test.false)) c.lists.invariant
