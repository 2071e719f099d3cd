use Rattle.std.proofs.lemmas.Result.{err_from_is_err_and}
use Rattle.std.proofs.lemmas.List.{get_or_read}
use Rattle.szg_file.specs.Held.{map_of}
use Rattle.szg_build.proofs.Writers.WritingLaws.{sub_values, values_below, mapped_item}
use Rattle.std.proofs.Common.{ap, sym, ◌∙◌, length, map, option_map, [], ◌∷◌, ◌++◌}
use Rattle.std.specs.Prelude.{codes}
use Rattle.std.specs.Fmt.{decimal}
use Rattle.szg_build.specs.Text.{line_text, lines_text, part_word, flags_lines, values_lines}
use Rattle.szg_build.specs.Shown.{form_of, sub_in}
use Rattle.szg_build.proofs.Writers.WritingLaws.{lines-append}
use Rattle.szg_build.proofs.Writers.WritingLaws.{writes_then, writes_stopped, writes_as}
use Rattle.szg_build.proofs.writing.put_sub.Goals as goal

pub returns-in_err-put_subtable_id : goal.returns-in_err-put_subtable_id
returns-in_err-put_subtable_id g c =
    let p = err_from_is_err_and c.from_residual.result c.from_residual.ensures.1 in
    rw (p.1, p.2) (writes_as (ap (λ z. line_text (codes "sub" ∷ part_word c.args.place.0 ∷ decimal c.args.place.1 ∷ []) ++ z) (lines-append (flags_lines c.args.dump.now.kind (sub_in c.args.dump.now c.args.s)) (values_lines (form_of c.args.form) (sub_in c.args.dump.now c.args.s).values)))
    (writes_stopped (line_text (codes "sub" ∷ part_word c.args.place.0 ∷ decimal c.args.place.1 ∷ [])) ((lines_text (flags_lines c.args.dump.now.kind (sub_in c.args.dump.now c.args.s))) ++ (lines_text (values_lines (form_of c.args.form) (sub_in c.args.dump.now c.args.s).values))) c.in_err-put_subtable_id.field-0.0 c.in_err-put_subtable_id.ensures))

pub returns-in_err-put_flags : goal.returns-in_err-put_flags
returns-in_err-put_flags g c =
    let p = err_from_is_err_and c.from_residual-in_err-put_flags.result c.from_residual-in_err-put_flags.ensures.1 in
    rw (p.1, p.2) (writes_as (ap (λ z. line_text (codes "sub" ∷ part_word c.args.place.0 ∷ decimal c.args.place.1 ∷ []) ++ z) (lines-append (flags_lines c.args.dump.now.kind (sub_in c.args.dump.now c.args.s)) (values_lines (form_of c.args.form) (sub_in c.args.dump.now c.args.s).values)))
    (writes_then (line_text (codes "sub" ∷ part_word c.args.place.0 ∷ decimal c.args.place.1 ∷ [])) ((lines_text (flags_lines c.args.dump.now.kind (sub_in c.args.dump.now c.args.s))) ++ (lines_text (values_lines (form_of c.args.form) (sub_in c.args.dump.now c.args.s).values))) c.in_ok-put_subtable_id.field-0 c.in_ok-put_subtable_id.ensures
    (writes_stopped (lines_text (flags_lines c.args.dump.now.kind (sub_in c.args.dump.now c.args.s))) (lines_text (values_lines (form_of c.args.form) (sub_in c.args.dump.now c.args.s).values)) c.in_err-put_flags.field-0.0 c.in_err-put_flags.ensures)))

pub returns : goal.returns
returns g c =
    let dump = c.args.dump.now in
    let s = c.args.s in
    let below = values_below dump.kind (length dump.flags.items) (length dump.maps.items) (length dump.lists.items) s c.requires.there in
    let stated = sub_values dump.kind dump.flags.items (map (option_map map_of) dump.maps.items) (map (λ list. list.items) dump.lists.items) s
    ∙ mapped_item dump.lists.items (λ list. list.items) s c.index.result.now [] below (get_or_read dump.lists.items _ _ below c.index.ensures c.index.result.now) ∙ sym c.deref.ensures.value in
    writes_as (ap (λ z. line_text (codes "sub" ∷ part_word c.args.place.0 ∷ decimal c.args.place.1 ∷ []) ++ z) (lines-append (flags_lines c.args.dump.now.kind (sub_in c.args.dump.now c.args.s)) (values_lines (form_of c.args.form) (sub_in c.args.dump.now c.args.s).values)))
    (writes_then (line_text (codes "sub" ∷ part_word c.args.place.0 ∷ decimal c.args.place.1 ∷ [])) ((lines_text (flags_lines c.args.dump.now.kind (sub_in c.args.dump.now c.args.s))) ++ (lines_text (values_lines (form_of c.args.form) (sub_in c.args.dump.now c.args.s).values))) c.in_ok-put_subtable_id.field-0 c.in_ok-put_subtable_id.ensures
    (writes_then (lines_text (flags_lines c.args.dump.now.kind (sub_in c.args.dump.now c.args.s))) (lines_text (values_lines (form_of c.args.form) (sub_in c.args.dump.now c.args.s).values)) c.in_ok-put_flags.field-0 c.in_ok-put_flags.ensures
    (writes_as (ap (λ z. lines_text (values_lines (form_of c.args.form) z)) stated) c.put_list.ensures)))
