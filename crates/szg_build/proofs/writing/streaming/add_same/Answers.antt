use Rattle.std.proofs.Common.{◌≡◌, ◌≤◌, ◌-◌, ◌+◌, ◌++◌, ℕ, List, [], replicate, ap, sym, ◌∙◌, append-nil, arith}
use Rattle.std.proofs.lemmas.List.{replicate-append-replicate}
use Rattle.szg_build.proofs.Writers.StreamSteps.{goes_as, goes_beyond, goes_none, goes_then}
use Rattle.szg_build.proofs.writing.streaming.add_same.Goals as goal

-- equal values after others
more_of : (done now whole v : ℕ) → done + now ≡ whole → (replicate done v ++ []) ++ replicate now v ≡ replicate whole v
more_of done now whole v e =
    ap (λ (z : List ℕ). z ++ replicate now v) (append-nil (replicate done v)) ∙ replicate-append-replicate done now v ∙ ap (λ (n : ℕ). replicate n v) e

pub values-init : goal.values-init
values-init g c =
    let none : c.args.count - c.args.count ≡ 0 = omega arith in
    record { within = omega arith; goes = goes_as [] (replicate (c.args.count - c.args.count) c.args.value) (ap (λ (n : ℕ). replicate n c.args.value) (sym none)) (goes_none g.W.Output c.args.sink.now c.args.output.now) }

pub values-preserved : goal.values-preserved
values-preserved g c =
    let v = c.args.value in
    let done = c.args.count - c.values.more in
    let now = c.min-now.result in
    let few : now ≤ c.values.more = omega (arith, c.min-now.ensures) in
    record {
      within = omega (arith, c.values.invariant.within);
      goes = goes_as ((replicate done v ++ []) ++ replicate now v) (replicate (c.args.count - (c.values.more - now)) v) (more_of done now (c.args.count - (c.values.more - now)) v (omega (arith, few, c.values.invariant.within)))
          (goes_then (replicate done v ++ []) (replicate now v) (goes_then (replicate done v) [] c.values.invariant.goes c.in_ok-find_room.ensures.goes) c.in_ok-add_run.ensures.goes);
    }

pub returns-then-not-branch-clause-goes : goal.returns-then-not-branch-clause-goes
returns-then-not-branch-clause-goes g c =
    let v = c.args.value in
    let done = c.args.count - c.values.more in
    goes_as ((replicate done v ++ []) ++ replicate c.values.more v) (replicate c.args.count v) (more_of done c.values.more c.args.count v (omega (arith, c.values.invariant.within)))
    (goes_then (replicate done v ++ []) (replicate c.values.more v) (goes_then (replicate done v) [] c.values.invariant.goes c.in_ok-find_room.ensures.goes)
    (goes_beyond g.W.Output (replicate c.values.more v) c.find_room.new.sink c.find_room.new.output (c.in_ok-find_room.ensures.none c.if-not-branch.true)))

pub returns-clause-goes : goal.returns-clause-goes
returns-clause-goes g c =
    let all : c.args.count - c.values.more ≡ c.args.count = omega (arith, c.values-test.false) in
    goes_as (replicate (c.args.count - c.values.more) c.args.value) (replicate c.args.count c.args.value) (ap (λ (n : ℕ). replicate n c.args.value) all) c.values.invariant.goes
