use Rattle.std.proofs.Common.{◌≡◌, ◌<◌, ◌+◌, ◌-◌, ℕ, suc, List, ◌∷◌, ◌++◌, arith, replicate, ap, sym, ◌∙◌}
use Rattle.std.specs.List.{flat_map}
use Rattle.std.proofs.lemmas.List.{replicate-append-replicate}
use Rattle.std.proofs.lemmas.Result.{err_from_is_err_and}
use Rattle.szg_build.specs.Text.{Form, runs, lines_text, value_lines}
use Rattle.szg_build.proofs.Writers.StreamLaws.{run_text, same_next, same_text}
use Rattle.szg_build.proofs.Writers.WritingLaws.{form_runs, form_single, run_line, value_line, writes_as, writes_more, writes_more_stopped, writes_nothing}
use Rattle.szg_build.proofs.writing.put_equal.Goals as goal

-- equal values, by those that are written, the next one and the others
apart : (count done v : ℕ) → done < count → replicate count v ≡ replicate done v ++ v ∷ replicate (count - suc done) v
apart count done v below =
    let whole : done + suc (count - suc done) ≡ count = omega (arith, below) in
    ap (λ (n : ℕ). replicate n v) (sym whole) ∙ sym (replicate-append-replicate done (suc (count - suc done)) v)

pub returns-then-count-eq0 : goal.returns-then-count-eq0
returns-then-count-eq0 g c =
    writes_as (ap (λ (f : Form). lines_text (value_lines f (replicate c.args.count c.args.value))) (form_runs c.args.form c.if-form-eq2.true)
    ∙ ap (λ (n : ℕ). lines_text (value_lines runs (replicate n c.args.value))) c.if-count-eq0.true) (writes_nothing tt)

pub returns-then-form-eq2 : goal.returns-then-form-eq2
returns-then-form-eq2 g c =
    writes_as (ap (λ (f : Form). lines_text (value_lines f (replicate c.args.count c.args.value))) (form_runs c.args.form c.if-form-eq2.true)
    ∙ run_text c.args.count c.args.value (omega (arith, c.if-count-eq0.false)) ∙ ap (λ v. run_line (c.args.count, v)) (sym c.from.ensures)) c.put_pair.ensures

pub lines-init : goal.lines-init
lines-init g c = writes_nothing tt

pub lines-preserved : goal.lines-preserved
lines-preserved g c =
    writes_as (ap (flat_map value_line) (same_next c.lines._done c.args.value))
    (writes_more value_line (replicate c.lines._done c.args.value) c.args.value c.in_ok-put_number.field-0 c.lines.invariant (writes_as (ap value_line (sym c.from-in-lines.ensures)) c.in_ok-put_number.ensures))

pub returns-in_err-put_number : goal.returns-in_err-put_number
returns-in_err-put_number g c =
    let p = err_from_is_err_and c.from_residual.result c.from_residual.ensures.1 in
    let v = c.args.value in
    let done = c.lines._done in
    rw (p.1, p.2) (writes_as (ap (λ (f : Form). lines_text (value_lines f (replicate c.args.count v))) (form_single c.args.form c.if-form-eq2.false)
    ∙ same_text c.args.count v ∙ ap (flat_map value_line) (apart c.args.count done v (omega (arith, c.lines-test.true))))
    (writes_more_stopped value_line (replicate done v) v (replicate (c.args.count - suc done) v) c.in_err-put_number.field-0.0 c.lines.invariant
    (writes_as (ap value_line (sym c.from-in-lines.ensures)) c.in_err-put_number.ensures)))

pub returns : goal.returns
returns g c =
    let all : c.args.count ≡ c.lines._done = omega (arith, c.lines-test.false, c.lines.auto._done-end) in
    writes_as (ap (λ (f : Form). lines_text (value_lines f (replicate c.args.count c.args.value))) (form_single c.args.form c.if-form-eq2.false)
    ∙ same_text c.args.count c.args.value ∙ ap (λ (n : ℕ). flat_map value_line (replicate n c.args.value)) all) c.lines.invariant
