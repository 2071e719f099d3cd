use Rattle.std.proofs.Common.{[], ◌∷◌, ℕ, map, ap, sym}
use Rattle.std.proofs.lemmas.List.{map-id}
use Rattle.std.proofs.lemmas.Result.{err_from_is_err_and}
use Rattle.szg_build.specs.Grammar.{value, values_lines, repeated, number_line}
use Rattle.szg_build.specs.Packed.{values_held}
use Rattle.szg_build.specs.declared.reading.values.Values.TheVariants.{Listed}
use Rattle.szg_build.proofs.Readers.GoingLaws.{reads_fault, reads_other}
use Rattle.szg_build.proofs.Readers.ReadingLaws.{reads_as}
use Rattle.szg_build.proofs.Writers.WritingLaws.{form_single}
use Rattle.szg_build.proofs.reading.read_values.Goals as goal

pub returns-in_err-list-clause-lines : goal.returns-in_err-list-clause-lines
returns-in_err-list-clause-lines g c =
    let p = err_from_is_err_and c.from_residual.result c.from_residual.ensures.1 in
    rw (p.1, p.2) (reads_as (ap (λ form. values_lines form c.args.count) (form_single c.args.form c.if-form-eq2.false)) (reads_fault c.in_err-list.field-0.0 c.in_err-list.ensures.lines))

pub returns-clause-lines : goal.returns-clause-lines
returns-clause-lines g c =
    reads_as (ap (λ form. values_lines form c.args.count) (form_single c.args.form c.if-form-eq2.false))
    (reads_other (repeated c.args.count (number_line (value ∷ []) 65535)) (λ list. map (λ (v : ℕ). v) list.items) values_held c.in_ok-list.list (Listed c.in_ok-list.list) (sym (map-id c.in_ok-list.list.items)) c.in_ok-list.ensures.lines)
