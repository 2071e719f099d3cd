use Rattle.std.proofs.Common.{List, take}
use Rattle.std.specs.Prelude.{Ok, flat_map}
use Rattle.szg_file.specs.FileOf.{Section}
use Rattle.szg_file.specs.Writing.{Writing, WritesAs}
use Rattle.szg_file.proofs.writing.outgoing.write_each.Given as goal

-- the items so far are written
abbrev pub invariant-items : goal.invariant-items
invariant-items g l =
    (sections : _ → List Section) → WritesAs g.F.Fn g.W.Output l.write sections →
    Writing {X = Unit {0}} (flat_map sections (take l.item-index l.items)) l.initial.outgoing l.outgoing g.W.Output l.initial.output l.output (Ok tt)
