use Rattle.std.proofs.Common.{map}
use Rattle.szg_build.specs.Shown.{plan_seen}
use Rattle.szg_build.proofs.Builders.PackedLaws.{built_as_chosen, coded_as_chosen}
use Rattle.szg_build.proofs.Builders.SubLaws.{if_ok}
use Rattle.szg_build.proofs.Builders.TableLaws.{constants_are}
use Rattle.szg_build.proofs.table.build_as.Goals as goal

pub returns-clause-built : goal.returns-clause-built
returns-clause-built g c =
    if_ok c.build_by-built.result (λ t h. built_as_chosen c.args.choice (plan_seen c.args.plan.now) (map (λ list. list.now) c.args.lists.now) t.contents c.requires.choice h) c.build_by-built.ensures.built

pub returns-clause-byte4 : goal.returns-clause-byte4
returns-clause-byte4 g c = if_ok c.build_by-built.result (λ t h. h.byte4) c.build_by-built.ensures.built

pub returns-clause-constants : goal.returns-clause-constants
returns-clause-constants g c =
    if_ok c.build_by-built.result (λ t h. constants_are c.args.plan.now.kind c.args.choice (map (λ list. list.now) c.args.lists.now) t.contents.subtables h.rule) c.build_by-built.ensures.built

pub returns-clause-codes : goal.returns-clause-codes
returns-clause-codes g c =
    if_ok c.build_by-built.result (λ t h. coded_as_chosen c.args.choice (plan_seen c.args.plan.now) (map (λ list. list.now) c.args.lists.now) t.contents h) c.build_by-built.ensures.built

pub returns-clause-index : goal.returns-clause-index
returns-clause-index g c = if_ok c.build_by-built.result (λ t h. h.index) c.build_by-built.ensures.built
