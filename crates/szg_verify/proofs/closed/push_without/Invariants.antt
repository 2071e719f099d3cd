use Rattle.std.proofs.Common.{◌≡◌, ◌≤◌, ◌+◌, ◌++◌, drop, length}
use Rattle.std.specs.Prelude.{if◌then◌else◌}
use Rattle.szg_verify.specs.Materials.{without}
use Rattle.szg_verify.proofs.closed.push_without.Given as goal

abbrev pub invariant-loop-other : goal.invariant-loop-other
invariant-loop-other l = record {
  few : length l.men.items ≤ length l.initial.men.items + l.other-index;
  so_far : l.men.items ++ (if l.is_taken then drop l.other-index l.side else without l.man (drop l.other-index l.side)) ≡ l.initial.men.items ++ without l.man l.side;
}
