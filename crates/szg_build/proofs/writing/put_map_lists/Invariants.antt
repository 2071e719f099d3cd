use Rattle.std.proofs.Common.{take, map, [], ◌∷◌}
use Rattle.std.specs.Prelude.{Ok}
use Rattle.szg_build.specs.Text.{lines_text, flat_map_beside, map_list_lines}
use Rattle.szg_build.specs.Writing.{Writing}
use Rattle.szg_build.proofs.writing.put_map_lists.Given as goal

-- the lists so far are written
abbrev pub invariant-lists : goal.invariant-lists
invariant-lists g l =
    Writing {X = Unit {0}} (lines_text (flat_map_beside map_list_lines (take l.j (0 ∷ 1 ∷ 2 ∷ 3 ∷ [])) (take l.j (map (λ list. map g.T.Item.number list.items) l.lists))))
    l.initial.text l.text g.W.Output l.initial.output l.output (Ok tt)
