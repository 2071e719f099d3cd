use Rattle.std.proofs.Common.{◌-◌, ◌+◌, ◌++◌, length, drop, get_or, replicate, take, ap, arith}
use Rattle.std.proofs.lemmas.List.{take_rest}
use Rattle.szg_build.proofs.Writers.StreamLaws.{run_on}
use Rattle.szg_build.proofs.Writers.StreamSteps.{goes_as, goes_none, goes_then}
use Rattle.szg_build.proofs.writing.streaming.add_values.Goals as goal

pub runs-init : goal.runs-init
runs-init g c = record { within = omega arith; goes = goes_none g.W.Output c.args.sink.now c.args.output.now }

pub runs-preserved : goal.runs-preserved
runs-preserved g c =
    let values = c.args.values.now in
    let from = c.runs.from in
    let n = c.run_length-count.result in
    let same = run_on values (take (length values - from) (drop from values)) from n (take_rest values from) c.run_length-count.ensures.same in
    record {
      within = omega (arith, c.run_length-count.ensures.within, ap length (take_rest values from));
      goes = goes_as (take from values ++ replicate n (get_or values from 0)) (take (from + n) values) same
          (goes_then (take from values) (replicate n (get_or values from 0)) c.runs.invariant.goes c.in_ok-add_same.ensures.goes);
    }
