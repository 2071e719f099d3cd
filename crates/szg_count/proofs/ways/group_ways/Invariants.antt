use Rattle.std.proofs.Common.{◌≡◌, map, take}
use Rattle.std.specs.Prelude.{sum}
use Rattle.std.specs.List.{range_with_len}
use Rattle.szg_count.specs.Steps.{ways_by}
use Rattle.szg_count.proofs.ways.group_ways.Given as goal

abbrev pub invariant-loop-i : goal.invariant-loop-i
invariant-loop-i l = record {
  ways : l.ways.items ≡ map (ways_by l.lead l.has_other l.lengths) (range_with_len 0 l.i);
  before : l.before ≡ sum (take l.i l.lengths);
}
