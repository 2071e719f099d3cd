use Rattle.std.proofs.Common.{[], refl, ◌∙◌}
use Rattle.szg_build.proofs.Writers.StreamSteps.{goes_none, goes_then}
use Rattle.szg_build.proofs.writing.streaming.find_room.Goals as goal

pub begun-init : goal.begun-init
begun-init g c = record { goes = goes_none g.W.Output c.args.sink.now c.args.output.now; index = refl }

pub begun-preserved : goal.begun-preserved
begun-preserved g c = record {
  goes = goes_then [] [] c.begun.invariant.goes c.in_ok-begin_sub.ensures.goes;
  index = c.in_ok-begin_sub.ensures.index ∙ c.begun.invariant.index;
}
