use Rattle.std.proofs.Common.{◌≡◌, ◌≤◌, ◌++◌, drop, length}
use Rattle.szg_verify.specs.Walk.{side_in}
use Rattle.szg_verify.proofs.closed.side_of.Given as goal

abbrev pub invariant-loop-man : goal.invariant-loop-man
invariant-loop-man l = record {
  few : length l.side.items ≤ l.man-index;
  so_far : l.side.items ++ side_in l.color (drop l.man-index l.man-items) ≡ side_in l.color l.man-items;
}
