use Rattle.szg_pairs.specs.Walk.{IsWalk, IsSeen, StaysSeen, work_left}
use Rattle.szg_pairs.proofs.walk.Walk.visit.Given as goal

abbrev pub invariant-loop-last : goal.invariant-loop-last
invariant-loop-last l = record {
  walk : IsWalk l.entries l.self.lengths.items l.self.seen.items l.self.path.items;
  entered : IsSeen l.self.seen.items l.symbol;
  stays : StaysSeen l.fn.self.seen.items l.self.seen.items;
}

abbrev pub decreases-loop-last : goal.decreases-loop-last
decreases-loop-last l = work_left l.self.seen.items l.self.path.items
