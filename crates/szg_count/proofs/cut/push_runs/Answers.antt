use Rattle.std.proofs.Common.{◌≡◌, ◌++◌, length, drop, sym, ap, ◌∙◌, arith}
use Rattle.std.specs.Prelude.{slice_get, Some, None}
use Rattle.std.specs.Option.{option_copied}
use Rattle.szg_count.specs.Steps.{leading, run_lengths}
use Rattle.szg_count.proofs.Cutting.{runs_step, runs_none, leading-first}
use Rattle.szg_count.proofs.cut.push_runs.Goals as goal

pub loop-man-preserved : goal.loop-man-preserved
loop-man-preserved c =
    let now : slice_get c.loop-man.rest.now 0 ≡ Some c.in-Some.man.now = sym c.in-Some.ensures.value in
    let run : length c.split_at.result.0.now ≡ leading c.in-Some.man.now c.loop-man.rest.now = cc in
    let following : c.split_at.result.1.now ≡ drop (length c.split_at.result.0.now) c.loop-man.rest.now = cc in
    let some = leading-first c.in-Some.man.now c.loop-man.rest.now now in
    record {
      all = ap (λ l. l ++ run_lengths c.split_at.result.1.now) c.push.ensures.items
          ∙ runs_step c.in-Some.man.now (length c.split_at.result.0.now) c.loop-man.lengths.items c.loop-man.rest.now c.split_at.result.1.now _ now run following c.loop-man.invariant.all;
      room = omega arith;
    }

pub returns : goal.returns
returns c =
    let none : slice_get c.loop-man.rest.now 0 ≡ None = sym c.first.ensures.value ∙ ap option_copied c.in_default.is in
    runs_none c.loop-man.lengths.items c.loop-man.rest.now none ∙ c.loop-man.invariant.all
