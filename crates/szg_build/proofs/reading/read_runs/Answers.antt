use Rattle.std.proofs.Common.{◌-◌, [], ◌++◌, ℕ, length, replicate, refl, ap, arith}
use Rattle.std.proofs.lemmas.List.{length-append, length-replicate}
use Rattle.std.proofs.lemmas.Result.{err_from_is_err_and}
use Rattle.szg_build.proofs.Readers.GoingLaws.{runs_begun, run_more, run_stopped, runs_ended}
use Rattle.szg_build.specs.Grammar.{run_values}
use Rattle.szg_build.specs.Packed.{values_held}
use Rattle.szg_build.proofs.Readers.LackLaws.{lacks_left}
use Rattle.szg_build.proofs.Readers.LeastLaws.{asks_runs}
use Rattle.szg_build.proofs.Readers.ReadingLaws.{passed_on}
use Rattle.szg_build.proofs.reading.read_runs.Goals as goal

pub runs-init : goal.runs-init
runs-init g c = (c.args.count, omega arith, runs_begun [] c.args.count refl, omega (arith, c.requires), omega arith)

pub returns-in_err-size-clause-lines : goal.returns-in_err-size-clause-lines
returns-in_err-size-clause-lines g c =
    let p = err_from_is_err_and c.from_residual.result c.from_residual.ensures.1 in
    let v = c.runs.invariant in
    rw (p.1, p.2) (run_stopped (values_held c.runs.values) v.0 c.runs.left values_held c.in_err-size.field-0.0 (omega (arith, c.runs-test.true)) v.1 v.2 c.in_err-size.ensures.lines)

pub runs-preserved : goal.runs-preserved
runs-preserved g c =
    let v = c.runs.invariant in
    let before = values_held c.runs.values in
    let r = run_more before (values_held c.in_ok-values.values) v.0 c.runs.left (c.in_ok-size.size, c.in_ok-size.value) (omega (arith, c.runs-test.true)) v.1 c.in_ok-size.ensures.some c.in_ok-values.ensures v.2 c.in_ok-size.ensures.lines in
    let longer = ap length c.in_ok-values.ensures in (
      r.0,
      r.1,
      r.2,
      omega (arith, c.in_ok-size.ensures.following),
      omega (arith, longer, length-append before (replicate c.in_ok-size.size c.in_ok-size.value), length-replicate c.in_ok-size.size c.in_ok-size.value, v.4, c.in_ok-size.ensures),
    )

pub returns-clause-lines : goal.returns-clause-lines
returns-clause-lines g c =
    let v = c.runs.invariant in
    runs_ended (values_held c.runs.values) v.0 c.runs.left values_held c.runs.values (omega (arith, c.runs-test.false)) refl v.2

pub returns-in_err-size-clause-memory : goal.returns-in_err-size-clause-memory
returns-in_err-size-clause-memory g c = passed_on c.from_residual.ensures.1 c.in_err-size.ensures.memory

pub returns-in_err-values-clause-memory : goal.returns-in_err-values-clause-memory
returns-in_err-values-clause-memory g c =
    let p = err_from_is_err_and c.from_residual-in_err-values.result c.from_residual-in_err-values.ensures.1 in
    let v = c.runs.invariant in
    let run : ℕ × ℕ = (c.in_ok-size.size, c.in_ok-size.value) in
    let more = values_held c.runs.values ++ replicate run.0 run.1 in
    let r = run_more (values_held c.runs.values) more v.0 c.runs.left run (omega (arith, c.runs-test.true)) v.1 c.in_ok-size.ensures.some refl v.2 c.in_ok-size.ensures.lines in
    rw (p.1, p.2) (λ e. lacks_left (λ xs. more ++ xs) (run_values r.0 (c.runs.left - run.0)) c.args.following 0 r.2 (asks_runs r.0 (c.runs.left - run.0)) (omega (arith, c.in_ok-size.ensures.following)))
