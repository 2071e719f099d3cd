use Rattle.std.proofs.Common.{◌≡◌, take}
use Rattle.std.specs.List.{concat}
use Rattle.szg_place.proofs.unranking.squares_at.Given as goal

-- the groups before this one
abbrev pub ghost-unrank_group : goal.ghost-unrank_group
ghost-unrank_group g a = take a.group g.given.1

abbrev pub invariant-loop-i : goal.invariant-loop-i
invariant-loop-i g l = l.squares.items ≡ concat (take l.i g.given.1)
