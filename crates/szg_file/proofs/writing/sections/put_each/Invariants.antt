use Rattle.std.proofs.Common.{List, take}
use Rattle.std.specs.Prelude.{flat_map}
use Rattle.szg_file.specs.FileOf.{Section}
use Rattle.szg_file.specs.Sections.{Took, TakesAs}
use Rattle.szg_file.proofs.writing.sections.put_each.Given as goal

-- the sink took the sections of the items so far
abbrev pub invariant-items : goal.invariant-items
invariant-items g l =
    (sections : _ → List Section) → TakesAs g.F.Fn g.S.SectionSink.takes l.put sections →
    Took g.S.SectionSink.takes (flat_map sections (take l.item-index l.items)) l.initial.sink l.initial.out l.sink l.out
