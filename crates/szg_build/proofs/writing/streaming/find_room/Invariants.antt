use Rattle.std.proofs.Common.{◌≡◌, ◌-◌, []}
use Rattle.szg_build.specs.Streaming.{Goes, head_count}
use Rattle.szg_build.proofs.writing.streaming.find_room.Given as goal

-- subtables are begun, and no value was taken
abbrev pub invariant-begun : goal.invariant-begun
invariant-begun g l = record {
  goes : Goes g.W.Output [] l.initial.sink l.initial.output l.sink l.output;
  index : l.sink.index ≡ l.initial.sink.index;
}

abbrev pub decreases-begun : goal.decreases-begun
decreases-begun g l = head_count l.sink.index.now - l.sink.next
