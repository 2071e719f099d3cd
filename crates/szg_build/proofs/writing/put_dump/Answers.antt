use Rattle.std.proofs.Common.{[], ◌++◌, map, ap, sym, append-nil}
use Rattle.std.proofs.lemmas.Result.{err_from_is_err_and}
use Rattle.szg_file.specs.Contents.{part_numbers}
use Rattle.szg_file.specs.Held.{part_of}
use Rattle.szg_build.specs.Dump.{subtable_ids_of}
use Rattle.szg_build.specs.Text.{lines_text, flat_map_beside, front_lines, part_lines, sub_lines}
use Rattle.szg_build.specs.declared.dump.Dump.{Dump}
use Rattle.std.proofs.Common.{List, ℕ}
use Rattle.szg_build.specs.Shown.{form_of, dump_seen, subs_seen}
use Rattle.szg_build.proofs.Writers.WritingLaws.{writes_then, writes_stopped, writes_as, dump_apart}
use Rattle.szg_build.proofs.writing.put_dump.Goals as goal

abbrev front : ℕ → Dump → List ℕ
front form dump = lines_text (front_lines (form_of form) dump.material dump.kind dump.last)

abbrev parts : Dump → List ℕ
parts dump = lines_text (flat_map_beside part_lines (part_numbers dump.material) (map part_of dump.parts.items))

abbrev subs : ℕ → Dump → List ℕ
subs form dump = lines_text (flat_map_beside (sub_lines (form_of form) dump.kind) (subtable_ids_of dump.material dump.kind) (subs_seen dump))

pub returns-in_err-put_front-clause-text : goal.returns-in_err-put_front-clause-text
returns-in_err-put_front-clause-text g c =
    let p = err_from_is_err_and c.from_residual.result c.from_residual.ensures.1 in
    let form = c.args.form in
    let dump = c.args.dump.now in
    rw (p.1, p.2) (writes_as (dump_apart (form_of form) (dump_seen dump))
    (writes_stopped (front form dump) (parts dump ++ subs form dump) c.in_err-put_front.field-0.0 c.in_err-put_front.ensures))

pub returns-in_err-put_parts-clause-text : goal.returns-in_err-put_parts-clause-text
returns-in_err-put_parts-clause-text g c =
    let p = err_from_is_err_and c.from_residual-in_err-put_parts.result c.from_residual-in_err-put_parts.ensures.1 in
    let form = c.args.form in
    let dump = c.args.dump.now in
    rw (p.1, p.2) (writes_as (dump_apart (form_of form) (dump_seen dump))
    (writes_then (front form dump) (parts dump ++ subs form dump) c.in_ok-put_front.field-0 c.in_ok-put_front.ensures
    (writes_stopped (parts dump) (subs form dump) c.in_err-put_parts.field-0.0
    (writes_as (ap (λ z. lines_text (flat_map_beside part_lines (part_numbers dump.material) (map part_of z))) (sym c.deref.ensures.value)) c.in_err-put_parts.ensures))))

pub returns-in_err-put_subs-clause-text : goal.returns-in_err-put_subs-clause-text
returns-in_err-put_subs-clause-text g c =
    let p = err_from_is_err_and c.from_residual-in_err-put_subs.result c.from_residual-in_err-put_subs.ensures.1 in
    let form = c.args.form in
    let dump = c.args.dump.now in
    rw (p.1, p.2) (writes_as (dump_apart (form_of form) (dump_seen dump))
    (writes_then (front form dump) (parts dump ++ subs form dump) c.in_ok-put_front.field-0 c.in_ok-put_front.ensures
    (writes_then (parts dump) (subs form dump) c.in_ok-put_parts.field-0
    (writes_as (ap (λ z. lines_text (flat_map_beside part_lines (part_numbers dump.material) (map part_of z))) (sym c.deref.ensures.value)) c.in_ok-put_parts.ensures)
    (writes_as (sym (append-nil (subs form dump))) (writes_stopped (subs form dump) [] c.in_err-put_subs.field-0.0 c.in_err-put_subs.ensures)))))

pub returns-clause-text : goal.returns-clause-text
returns-clause-text g c =
    let form = c.args.form in
    let dump = c.args.dump.now in
    writes_as (dump_apart (form_of form) (dump_seen dump))
    (writes_then (front form dump) (parts dump ++ subs form dump) c.in_ok-put_front.field-0 c.in_ok-put_front.ensures
    (writes_then (parts dump) (subs form dump) c.in_ok-put_parts.field-0
    (writes_as (ap (λ z. lines_text (flat_map_beside part_lines (part_numbers dump.material) (map part_of z))) (sym c.deref.ensures.value)) c.in_ok-put_parts.ensures)
    (writes_as (sym (append-nil (subs form dump))) (writes_then (subs form dump) [] c.in_ok-put_subs.field-0 c.in_ok-put_subs.ensures c.flush.ensures.none))))
