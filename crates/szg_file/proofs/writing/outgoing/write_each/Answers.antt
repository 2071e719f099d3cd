use Rattle.std.proofs.lemmas.Result.{err_from_is_err_and}
use Rattle.szg_file.proofs.Writers.WritingLaws.{writes_item, writes_item_stopped}
use Rattle.szg_file.proofs.writing.outgoing.write_each.Goals as goal

pub items-preserved : goal.items-preserved
items-preserved g c = λ sections all.
    writes_item sections c.args.items.now c.items.item-index c.item-item.result c.in_ok-write.field-0
    c.items-test.true c.item-item.is (c.items.invariant sections all) (all _ _ _ _ _ _ c.in_ok-write.ensures)

pub returns-in_err-write : goal.returns-in_err-write
returns-in_err-write g c = λ sections all.
    let p = err_from_is_err_and c.from_residual.result c.from_residual.ensures.1 in
    rw (p.1, p.2) (writes_item_stopped sections c.args.items.now c.items.item-index c.item-item.result c.in_err-write.field-0.0
    c.items-test.true c.item-item.is (c.items.invariant sections all) (all _ _ _ _ _ _ c.in_err-write.ensures))
