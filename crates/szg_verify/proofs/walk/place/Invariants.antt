use Rattle.std.proofs.Common.{◌≡◌, ◌++◌, drop, length}
use Rattle.szg_verify.specs.Walk.{placed_by}
use Rattle.szg_verify.proofs.walk.place.Given as goal

abbrev pub invariant-loop-man : goal.invariant-loop-man
invariant-loop-man l = record {
  many : length l.placed.items ≡ l.man-index;
  so_far : l.placed.items ++ placed_by l.rest (drop l.man-index l.men) ≡ placed_by l.number l.men;
}
