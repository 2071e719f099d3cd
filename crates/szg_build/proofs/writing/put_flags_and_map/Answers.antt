use Rattle.std.proofs.Common.{ℕ, List, [], ◌∷◌, option_map, ap, sym, rules}
use Rattle.std.specs.Prelude.{codes}
use Rattle.std.specs.Fmt.{decimal}
use Rattle.std.proofs.lemmas.Result.{err_from_is_err_and}
use Rattle.szg_file.specs.Held.{map_of}
use Rattle.szg_build.specs.Text.{line_text, lines_text, map_lines}
use Rattle.szg_build.proofs.Writers.ItemLaws.{lists_parsed}
use Rattle.szg_build.proofs.Writers.WritingLaws.{writes_then, writes_stopped, writes_as}
use Rattle.szg_build.proofs.writing.put_flags_and_map.Goals as goal

abbrev flags_line : ℕ → List ℕ
flags_line flags = line_text (codes "flags" ∷ decimal flags ∷ [])

pub returns-in_err-put_number : goal.returns-in_err-put_number
returns-in_err-put_number g c =
    let p = err_from_is_err_and c.from_residual.result c.from_residual.ensures.1 in
    rw (p.1, p.2) (writes_stopped (flags_line c.args.flags) (lines_text (map_lines (option_map map_of c.args.map.now))) c.in_err-put_number.field-0.0
    (writes_as (ap flags_line (sym c.from.ensures)) c.in_err-put_number.ensures))

pub returns-in-None : goal.returns-in-None
returns-in-None g c =
    writes_then (flags_line c.args.flags) (lines_text (map_lines (option_map map_of c.args.map.now))) c.in_ok-put_number.field-0
    (writes_as (ap flags_line (sym c.from.ensures)) c.in_ok-put_number.ensures) (search rules)

pub returns-in-Some-Bytes : goal.returns-in-Some-Bytes
returns-in-Some-Bytes g c =
    let lists = writes_as (lists_parsed (λ list. list.items) c.in-Some-Bytes.lists) c.put_map_lists.ensures in
    writes_then (flags_line c.args.flags) (lines_text (map_lines (option_map map_of c.args.map.now))) c.in_ok-put_number.field-0
    (writes_as (ap flags_line (sym c.from.ensures)) c.in_ok-put_number.ensures) (search rules)

pub returns-in-Some-Wide : goal.returns-in-Some-Wide
returns-in-Some-Wide g c =
    let lists = writes_as (lists_parsed (λ list. list.items) c.in-Some-Wide.lists) c.put_map_lists-in-Some-Wide.ensures in
    writes_then (flags_line c.args.flags) (lines_text (map_lines (option_map map_of c.args.map.now))) c.in_ok-put_number.field-0
    (writes_as (ap flags_line (sym c.from.ensures)) c.in_ok-put_number.ensures) (search rules)
