use Rattle.std.proofs.Common.{◌≡◌, ◌-◌, ℕ, List, [], ◌++◌}
use Rattle.szg_io.specs.Moved.{Gives}
use Rattle.szg_build.specs.Streaming.{head_count, text_left}
use Rattle.szg_build.proofs.writing.streaming.end_dump.Given as goal

-- subtables are begun, none of which needs values
abbrev pub invariant-begun : goal.invariant-begun
invariant-begun g l = record {
  left : l.sink.left ≡ 0;
  bytes : List ℕ;
  given : Gives g.W.Output l.initial.output l.output bytes 0;
  quiet : g.W.Output.failures l.output ≡ g.W.Output.failures l.initial.output;
  whole : l.fn.sink.text.held.items ++ text_left l.fn.sink [] ≡ bytes ++ (l.sink.text.held.items ++ text_left l.sink []);
}

abbrev pub decreases-begun : goal.decreases-begun
decreases-begun g l = head_count l.sink.index.now - l.sink.next
