use Rattle.std.proofs.Common.{◌≡◌, ◌==◌, not, filter, map, take}
use Rattle.szg_chess.specs.Moves.{man_after}
use Rattle.szg_chess.proofs.Position.men_left.Given as goal

abbrev pub invariant-loop-man : goal.invariant-loop-man
invariant-loop-man l = l.men ≡ map (man_after l.m) (filter (λ s. not (s.2 == l.captured)) (take l.man-index l.man-items))
