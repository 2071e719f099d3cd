use Rattle.std.proofs.Common.{arith}
use Rattle.szg_file.proofs.Writers.SectionLaws.{took_none, took_item, took_all}
use Rattle.szg_file.proofs.writing.sections.put_each.Goals as goal

pub items-init : goal.items-init
items-init g c = λ sections all. took_none g.S.SectionSink.takes c.args.sink.now c.args.out.now

pub items-preserved : goal.items-preserved
items-preserved g c = λ sections all.
    took_item g.S.SectionSink.takes sections c.args.items.now c.items.item-index c.item-item.result c.items-test.true c.item-item.is
    (c.items.invariant sections all) (all _ _ _ _ _ c.put.ensures)

pub returns : goal.returns
returns g c = λ sections all.
    took_all g.S.SectionSink.takes sections c.args.items.now c.items.item-index (omega arith) (c.items.invariant sections all)
