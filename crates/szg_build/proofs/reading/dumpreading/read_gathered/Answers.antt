use Rattle.std.proofs.Common.{ℕ, ◌*◌, length, map, ap, arith, rules}
use Rattle.std.proofs.lemmas.Result.{err_from_is_err_and}
use Rattle.szg_file.specs.Held.{part_of}
use Rattle.szg_build.specs.Dump.{parts_of, subtable_ids_of}
use Rattle.szg_build.specs.Fronts.{lines_after}
use Rattle.szg_build.specs.Lines.{◌>>=◌}
use Rattle.szg_build.specs.Grammar.{each, version_line, name_line, kind_line, end_line, part_line}
use Rattle.szg_build.specs.Packed.{gathered_dump}
use Rattle.szg_build.specs.Shown.{form_of}
use Rattle.szg_build.specs.Wholes.{dump_after_parts}
use Rattle.szg_build.proofs.Readers.LineParses.{known_reads}
use Rattle.szg_build.proofs.Readers.ReadingLaws.{passed_on, reads_as, reads_then, reads_stopped, same_error}
use Rattle.szg_build.proofs.Readers.LackLaws.{lacks_as, lacks_first, lacks_then}
use Rattle.szg_build.proofs.Readers.LeastLaws.{requests_after_parts}
use Rattle.szg_build.proofs.Readers.WholeLaws.{after_form, dump_after_kind, whole_text}
use Rattle.szg_build.proofs.reading.dumpreading.read_gathered.Goals as goal

pub returns-in_err-form-clause-lines : goal.returns-in_err-form-clause-lines
returns-in_err-form-clause-lines g c =
    let p = err_from_is_err_and c.from_residual.result c.from_residual.ensures.1 in
    rw (p.1, p.2) (reads_as whole_text (reads_stopped version_line after_form form_of gathered_dump c.in_err-form.field-0.0 (known_reads (lines_after version_line) form_of (λ text stated gave. search rules) c.in_err-form.ensures.lines)))

pub returns-in_err-material-clause-lines : goal.returns-in_err-material-clause-lines
returns-in_err-material-clause-lines g c =
    let p = err_from_is_err_and c.from_residual-in_err-material.result c.from_residual-in_err-material.ensures.1 in
    rw (p.1, p.2) (reads_as whole_text (reads_then version_line after_form form_of gathered_dump c.in_ok-form.form (known_reads (lines_after version_line) form_of (λ text stated gave. search rules) c.in_ok-form.ensures.lines)
    (reads_stopped name_line (λ material. kind_line >>= λ kind. dump_after_kind (form_of c.in_ok-form.form) material kind) (λ material. material) gathered_dump c.in_err-material.field-0.0 (known_reads (lines_after name_line) (λ material. material) (λ text stated gave. search rules) c.in_err-material.ensures.lines))))

pub returns-in_err-kind-clause-lines : goal.returns-in_err-kind-clause-lines
returns-in_err-kind-clause-lines g c =
    let p = err_from_is_err_and c.from_residual-in_err-kind.result c.from_residual-in_err-kind.ensures.1 in
    rw (p.1, p.2) (reads_as whole_text (reads_then version_line after_form form_of gathered_dump c.in_ok-form.form (known_reads (lines_after version_line) form_of (λ text stated gave. search rules) c.in_ok-form.ensures.lines)
    (reads_then name_line (λ material. kind_line >>= λ kind. dump_after_kind (form_of c.in_ok-form.form) material kind) (λ material. material) gathered_dump c.in_ok-material.material (known_reads (lines_after name_line) (λ material. material) (λ text stated gave. search rules) c.in_ok-material.ensures.lines)
    (reads_stopped kind_line (λ kind. dump_after_kind (form_of c.in_ok-form.form) c.in_ok-material.material kind) (λ kind. kind) gathered_dump c.in_err-kind.field-0.0 (known_reads (lines_after kind_line) (λ kind. kind) (λ text stated gave. search rules) c.in_err-kind.ensures.lines)))))

pub returns-in_err-last-clause-lines : goal.returns-in_err-last-clause-lines
returns-in_err-last-clause-lines g c =
    let p = err_from_is_err_and c.from_residual-in_err-last.result c.from_residual-in_err-last.ensures.1 in
    rw (p.1, p.2) (reads_as whole_text (reads_then version_line after_form form_of gathered_dump c.in_ok-form.form (known_reads (lines_after version_line) form_of (λ text stated gave. search rules) c.in_ok-form.ensures.lines)
    (reads_then name_line (λ material. kind_line >>= λ kind. dump_after_kind (form_of c.in_ok-form.form) material kind) (λ material. material) gathered_dump c.in_ok-material.material (known_reads (lines_after name_line) (λ material. material) (λ text stated gave. search rules) c.in_ok-material.ensures.lines)
    (reads_then kind_line (λ kind. dump_after_kind (form_of c.in_ok-form.form) c.in_ok-material.material kind) (λ kind. kind) gathered_dump c.in_ok-kind.kind (known_reads (lines_after kind_line) (λ kind. kind) (λ text stated gave. search rules) c.in_ok-kind.ensures.lines)
    (reads_stopped end_line (λ last. each part_line (parts_of c.in_ok-material.material) >>= λ parts. dump_after_parts (form_of c.in_ok-form.form) c.in_ok-material.material c.in_ok-kind.kind last parts) (λ bytes. bytes) gathered_dump c.in_err-last.field-0.0 (known_reads (lines_after end_line) (λ bytes. bytes) (λ text stated gave. search rules) c.in_err-last.ensures.lines))))))

pub returns-in_err-parts-clause-lines : goal.returns-in_err-parts-clause-lines
returns-in_err-parts-clause-lines g c =
    let p = err_from_is_err_and c.from_residual-in_err-parts.result c.from_residual-in_err-parts.ensures.1 in
    rw (p.1, p.2) (reads_as whole_text (reads_then version_line after_form form_of gathered_dump c.in_ok-form.form (known_reads (lines_after version_line) form_of (λ text stated gave. search rules) c.in_ok-form.ensures.lines)
    (reads_then name_line (λ material. kind_line >>= λ kind. dump_after_kind (form_of c.in_ok-form.form) material kind) (λ material. material) gathered_dump c.in_ok-material.material (known_reads (lines_after name_line) (λ material. material) (λ text stated gave. search rules) c.in_ok-material.ensures.lines)
    (reads_then kind_line (λ kind. dump_after_kind (form_of c.in_ok-form.form) c.in_ok-material.material kind) (λ kind. kind) gathered_dump c.in_ok-kind.kind (known_reads (lines_after kind_line) (λ kind. kind) (λ text stated gave. search rules) c.in_ok-kind.ensures.lines)
    (reads_then end_line (λ last. each part_line (parts_of c.in_ok-material.material) >>= λ parts. dump_after_parts (form_of c.in_ok-form.form) c.in_ok-material.material c.in_ok-kind.kind last parts) (λ bytes. bytes) gathered_dump c.in_ok-last.last (known_reads (lines_after end_line) (λ bytes. bytes) (λ text stated gave. search rules) c.in_ok-last.ensures.lines)
    (reads_stopped (each part_line (parts_of c.in_ok-material.material)) (λ parts. dump_after_parts (form_of c.in_ok-form.form) c.in_ok-material.material c.in_ok-kind.kind c.in_ok-last.last parts) (λ parts. map part_of parts.items) gathered_dump c.in_err-parts.field-0.0 c.in_err-parts.ensures.lines))))))

pub returns-clause-lines : goal.returns-clause-lines
returns-clause-lines g c =
    reads_as whole_text (reads_then version_line after_form form_of gathered_dump c.in_ok-form.form (known_reads (lines_after version_line) form_of (λ text stated gave. search rules) c.in_ok-form.ensures.lines)
    (reads_then name_line (λ material. kind_line >>= λ kind. dump_after_kind (form_of c.in_ok-form.form) material kind) (λ material. material) gathered_dump c.in_ok-material.material (known_reads (lines_after name_line) (λ material. material) (λ text stated gave. search rules) c.in_ok-material.ensures.lines)
    (reads_then kind_line (λ kind. dump_after_kind (form_of c.in_ok-form.form) c.in_ok-material.material kind) (λ kind. kind) gathered_dump c.in_ok-kind.kind (known_reads (lines_after kind_line) (λ kind. kind) (λ text stated gave. search rules) c.in_ok-kind.ensures.lines)
    (reads_then end_line (λ last. each part_line (parts_of c.in_ok-material.material) >>= λ parts. dump_after_parts (form_of c.in_ok-form.form) c.in_ok-material.material c.in_ok-kind.kind last parts) (λ bytes. bytes) gathered_dump c.in_ok-last.last (known_reads (lines_after end_line) (λ bytes. bytes) (λ text stated gave. search rules) c.in_ok-last.ensures.lines)
    (reads_then (each part_line (parts_of c.in_ok-material.material)) (λ parts. dump_after_parts (form_of c.in_ok-form.form) c.in_ok-material.material c.in_ok-kind.kind c.in_ok-last.last parts) (λ parts. map part_of parts.items) gathered_dump c.in_ok-parts.parts c.in_ok-parts.ensures.lines c.read_subs.ensures.lines)))))

pub returns-in_err-form-clause-memory : goal.returns-in_err-form-clause-memory
returns-in_err-form-clause-memory g c =
    passed_on c.from_residual.ensures.1 c.in_err-form.ensures.memory

pub returns-in_err-material-clause-memory : goal.returns-in_err-material-clause-memory
returns-in_err-material-clause-memory g c =
    passed_on c.from_residual-in_err-material.ensures.1 c.in_err-material.ensures.memory

pub returns-in_err-kind-clause-memory : goal.returns-in_err-kind-clause-memory
returns-in_err-kind-clause-memory g c =
    passed_on c.from_residual-in_err-kind.ensures.1 c.in_err-kind.ensures.memory

pub returns-in_err-last-clause-memory : goal.returns-in_err-last-clause-memory
returns-in_err-last-clause-memory g c =
    passed_on c.from_residual-in_err-last.ensures.1 c.in_err-last.ensures.memory

pub returns-in_err-parts-clause-memory : goal.returns-in_err-parts-clause-memory
returns-in_err-parts-clause-memory g c =
    let p = err_from_is_err_and c.from_residual-in_err-parts.result c.from_residual-in_err-parts.ensures.1 in
    let due : ℕ = 2 * length (subtable_ids_of c.in_ok-material.material c.in_ok-kind.kind) in
    rw (p.1, p.2) (λ e. lacks_as whole_text (lacks_then version_line after_form 0 form_of c.in_ok-form.form (known_reads (lines_after version_line) form_of (λ text stated gave. search rules) c.in_ok-form.ensures.lines)
    (lacks_then name_line (λ material. kind_line >>= λ kind. dump_after_kind (form_of c.in_ok-form.form) material kind) 0 (λ material. material) c.in_ok-material.material (known_reads (lines_after name_line) (λ material. material) (λ text stated gave. search rules) c.in_ok-material.ensures.lines)
    (lacks_then kind_line (λ kind. dump_after_kind (form_of c.in_ok-form.form) c.in_ok-material.material kind) 0 (λ kind. kind) c.in_ok-kind.kind (known_reads (lines_after kind_line) (λ kind. kind) (λ text stated gave. search rules) c.in_ok-kind.ensures.lines)
    (lacks_then end_line (λ last. each part_line (parts_of c.in_ok-material.material) >>= λ parts. dump_after_parts (form_of c.in_ok-form.form) c.in_ok-material.material c.in_ok-kind.kind last parts) 0 (λ bytes. bytes) c.in_ok-last.last (known_reads (lines_after end_line) (λ bytes. bytes) (λ text stated gave. search rules) c.in_ok-last.ensures.lines)
    (lacks_first (each part_line (parts_of c.in_ok-material.material)) (λ parts. dump_after_parts (form_of c.in_ok-form.form) c.in_ok-material.material c.in_ok-kind.kind c.in_ok-last.last parts) _ 0 due (omega (arith, ap length c.places.ensures.places))
    (λ parts. requests_after_parts (form_of c.in_ok-form.form) c.in_ok-material.material c.in_ok-kind.kind c.in_ok-last.last parts) (c.in_err-parts.ensures.memory (same_error e))))))))

pub returns-clause-memory : goal.returns-clause-memory
returns-clause-memory g c =
    λ e. lacks_as whole_text (lacks_then version_line after_form 0 form_of c.in_ok-form.form (known_reads (lines_after version_line) form_of (λ text stated gave. search rules) c.in_ok-form.ensures.lines)
    (lacks_then name_line (λ material. kind_line >>= λ kind. dump_after_kind (form_of c.in_ok-form.form) material kind) 0 (λ material. material) c.in_ok-material.material (known_reads (lines_after name_line) (λ material. material) (λ text stated gave. search rules) c.in_ok-material.ensures.lines)
    (lacks_then kind_line (λ kind. dump_after_kind (form_of c.in_ok-form.form) c.in_ok-material.material kind) 0 (λ kind. kind) c.in_ok-kind.kind (known_reads (lines_after kind_line) (λ kind. kind) (λ text stated gave. search rules) c.in_ok-kind.ensures.lines)
    (lacks_then end_line (λ last. each part_line (parts_of c.in_ok-material.material) >>= λ parts. dump_after_parts (form_of c.in_ok-form.form) c.in_ok-material.material c.in_ok-kind.kind last parts) 0 (λ bytes. bytes) c.in_ok-last.last (known_reads (lines_after end_line) (λ bytes. bytes) (λ text stated gave. search rules) c.in_ok-last.ensures.lines)
    (lacks_then (each part_line (parts_of c.in_ok-material.material)) (λ parts. dump_after_parts (form_of c.in_ok-form.form) c.in_ok-material.material c.in_ok-kind.kind c.in_ok-last.last parts) 0 (λ parts. map part_of parts.items) c.in_ok-parts.parts c.in_ok-parts.ensures.lines (c.read_subs.ensures.memory e))))))
