use Rattle.std.proofs.Common.{[], ◌∷◌, ◌++◌, length, map, get_or, option_map, ap, sym, ◌∙◌, None}
use Rattle.std.specs.Prelude.{codes}
use Rattle.std.specs.Fmt.{decimal}
use Rattle.std.proofs.lemmas.List.{get_or_read}
use Rattle.szg_file.specs.Held.{map_of}
use Rattle.szg_build.specs.Text.{line_text, lines_text, map_lines}
use Rattle.szg_build.proofs.Writers.WritingLaws.{writes_as, mapped_item, dtz_below, dtz_lines}
use Rattle.szg_build.proofs.writing.put_flags.Goals as goal

pub returns-in-Dtz : goal.returns-in-Dtz
returns-in-Dtz g c =
    let dump = c.args.dump.now in
    let s = c.args.s in
    let maps = map (option_map map_of) dump.maps.items in
    let lists = map (λ list. list.items) dump.lists.items in
    let below = dtz_below dump.kind (length dump.flags.items) (length dump.maps.items) (length dump.lists.items) s c.in-Dtz.is c.requires in
    let flag = get_or_read dump.flags.items _ _ below.0 c.index.ensures 0 in
    let stated = mapped_item dump.maps.items (option_map map_of) s c.index-in-Dtz.result.now None below.1 (get_or_read dump.maps.items _ _ below.1 c.index-in-Dtz.ensures c.index-in-Dtz.result.now) in
    writes_as (dtz_lines dump.kind dump.flags.items maps lists s c.in-Dtz.is
    ∙ ap (λ z. line_text (codes "flags" ∷ decimal z ∷ []) ++ lines_text (map_lines (get_or maps s None))) (sym flag)
    ∙ ap (λ z. line_text (codes "flags" ∷ decimal c.index.result.now ∷ []) ++ lines_text (map_lines z)) stated) c.put_flags_and_map.ensures
