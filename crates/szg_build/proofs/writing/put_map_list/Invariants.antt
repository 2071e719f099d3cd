use Rattle.std.proofs.Common.{take}
use Rattle.std.specs.Prelude.{Ok}
use Rattle.std.specs.List.{flat_map}
use Rattle.szg_build.specs.Writing.{Writing}
use Rattle.szg_build.proofs.Writers.WritingLaws.{value_line}
use Rattle.szg_build.proofs.writing.put_map_list.Given as goal

-- the items so far are written
abbrev pub invariant-items : goal.invariant-items
invariant-items g l =
    Writing {X = Unit {0}} (flat_map (λ item. value_line (g.T.Item.number item)) (take l.item-index l.list)) l.initial.text l.text g.W.Output l.initial.output l.output (Ok tt)
