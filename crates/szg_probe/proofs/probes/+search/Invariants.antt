use Rattle.std.proofs.Common.{◌≡◌, ◌+◌, ◌*◌, length, take}
use Rattle.szg_probe.proofs.Search.{BestSoFar, after_in}
use Rattle.szg_probe.proofs.probes.+search.Given as goal

abbrev pub decreases-search : goal.decreases-search
decreases-search g l = 2 * length l.position.now.placed_men + 1

abbrev pub decreases-search_captures : goal.decreases-search_captures
decreases-search_captures g l = 2 * length l.position.now.placed_men

abbrev pub invariant-search_captures-loop-m : goal.invariant-search_captures-loop-m
invariant-search_captures-loop-m g l = (l.tables ≡ l.fn.tables) × BestSoFar (after_in (g.T.Tables.stored l.fn.tables) l.position) (take l.m-index l.m-items) l.best
