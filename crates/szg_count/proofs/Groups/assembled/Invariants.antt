use Rattle.std.proofs.Common.{◌≡◌, ◌*◌, map, take, drop}
use Rattle.std.specs.Prelude.{sum}
use Rattle.std.specs.List.{range_with_len}
use Rattle.szg_count.specs.Groups.{product}
use Rattle.szg_count.specs.Steps.{group_from}
use Rattle.szg_count.proofs.Groups.assembled.Given as goal

abbrev pub invariant-loop-i : goal.invariant-loop-i
invariant-loop-i l = record {
  groups : l.groups.items ≡ map (group_from l.lengths l.ways l.positions) (range_with_len 0 l.i);
  first : l.first ≡ sum (take l.i l.lengths);
  size : l.size * product (drop l.i l.ways) ≡ product l.ways;
}
