use Rattle.std.proofs.Common.{◌++◌}
use Rattle.szg_build.proofs.Writers.StreamSteps.{goes_as, goes_then}
use Rattle.szg_build.proofs.Writers.TableDumps.{blocks_more}
use Rattle.szg_build.proofs.writing.table_dump.put_stored.Goals as goal

pub each-preserved : goal.each-preserved
each-preserved g c =
    let done = c.each.invariant.done in
    let here = c.decode_next.new.values.items in
    record {
      done = done ++ here;
      whole = blocks_more done here c.each.blocks.values c.decode_next.new.self.values c.in-Blocks.blocks.values c.each.invariant.whole (c.in_ok-decode_next-in-Blocks.ensures.values c.if-branch.true);
      goes = goes_then done here c.each.invariant.goes (goes_as c.deref.result.now here c.deref.ensures.value c.in-Ok.ensures.goes);
    }
