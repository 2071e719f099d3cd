use Rattle.std.proofs.Common.{◌≡◌, ◌-◌, ◌+◌, List, ℕ, [], ◌∷◌, ◌++◌, length, take, drop, get_or, replicate, refl, ap, sym, ◌∙◌, append_assoc, append-nil, arith}
use Rattle.std.proofs.lemmas.List.{drop_all, take_rest}
use Rattle.std.proofs.lemmas.Result.{err_from_is_err_and}
use Rattle.std.specs.Prelude.{codes}
use Rattle.std.specs.Fmt.{decimal}
use Rattle.szg_build.specs.Text.{line_text, lines_text, value_lines}
use Rattle.szg_build.specs.Shown.{form_of}
use Rattle.szg_build.proofs.Writers.StreamLaws.{no_values, run_left}
use Rattle.szg_build.proofs.Writers.WritingLaws.{writes_then, writes_stopped, writes_as, writes_nothing}
use Rattle.szg_build.proofs.writing.put_list.Goals as goal

abbrev count_line : List ℕ → List ℕ
count_line values = line_text (codes "values" ∷ decimal (length values) ∷ [])

pub returns-in_err-put_number : goal.returns-in_err-put_number
returns-in_err-put_number g c =
    let p = err_from_is_err_and c.from_residual.result c.from_residual.ensures.1 in
    rw (p.1, p.2) (writes_stopped (count_line c.args.values.now) (lines_text (value_lines (form_of c.args.form) c.args.values.now)) c.in_err-put_number.field-0.0 c.in_err-put_number.ensures)

pub runs-init : goal.runs-init
runs-init g c = (omega arith, ([], writes_nothing tt, refl))

pub runs-preserved : goal.runs-preserved
runs-preserved g c =
    let values = c.args.values.now in
    let from = c.runs.from in
    let n = c.run_length-count.result in
    let text = c.runs.invariant.1.0 in
    let here : List ℕ = lines_text (value_lines (form_of c.args.form) (replicate n (get_or values from 0))) in (
      omega (arith, c.run_length-count.ensures.within, ap length (take_rest values from)),
      (
        text ++ here,
        writes_then text here tt c.runs.invariant.1.1 c.in_ok-put_equal.ensures,
        run_left (form_of c.args.form) values (take (length values - from) (drop from values)) text from n (take_rest values from) c.run_length-count.ensures.some c.run_length-count.ensures.run c.run_length-count.ensures.same c.runs.invariant.1.2,
      ),
    )

pub returns-in_err-put_equal : goal.returns-in_err-put_equal
returns-in_err-put_equal g c =
    let p = err_from_is_err_and c.from_residual-in_err-put_equal.result c.from_residual-in_err-put_equal.ensures.1 in
    let values = c.args.values.now in
    let from = c.runs.from in
    let n = c.run_length-count.result in
    let text = c.runs.invariant.1.0 in
    let form = form_of c.args.form in
    let here : List ℕ = lines_text (value_lines form (replicate n (get_or values from 0))) in
    let rest : List ℕ = lines_text (value_lines form (drop (from + n) values)) in
    let whole = run_left form values (take (length values - from) (drop from values)) text from n (take_rest values from) c.run_length-count.ensures.some c.run_length-count.ensures.run c.run_length-count.ensures.same c.runs.invariant.1.2 in
    rw (p.1, p.2) (writes_then (count_line values) (lines_text (value_lines form values)) c.in_ok-put_number.field-0 c.in_ok-put_number.ensures
    (writes_as (sym whole ∙ append_assoc text here rest) (writes_then text (here ++ rest) tt c.runs.invariant.1.1 (writes_stopped here rest c.in_err-put_equal.field-0.0 c.in_err-put_equal.ensures))))

pub returns : goal.returns
returns g c =
    let values = c.args.values.now in
    let text = c.runs.invariant.1.0 in
    let form = form_of c.args.form in
    let none : drop c.runs.from values ≡ [] = drop_all c.runs.from values c.runs-test.false in
    writes_then (count_line values) (lines_text (value_lines form values)) c.in_ok-put_number.field-0 c.in_ok-put_number.ensures
    (writes_as (sym c.runs.invariant.1.2 ∙ ap (λ (z : List ℕ). text ++ lines_text (value_lines form z)) none ∙ ap (λ (z : List ℕ). text ++ z) (no_values form) ∙ append-nil text) c.runs.invariant.1.1)
