use Rattle.std.proofs.Common.{◌≡◌, ◌%◌, ◌<◌, ℕ, length, get_or, option_map, ap, sym, ◌∙◌, arith, None, Option, List, []}
use Rattle.std.proofs.lemmas.List.{length-map}
use Rattle.szg_values.specs.declared.Kind.TheVariants.{Dtz}
use Rattle.szg_file.specs.Contents.{Map}
use Rattle.szg_file.specs.Held.{map_of}
use Rattle.szg_file.specs.Index.{slots_in}
use Rattle.szg_build.specs.Text.{flags_lines, lines_text}
use Rattle.szg_build.proofs.Writers.StreamLaws.{flags_at}
use Rattle.szg_build.proofs.Writers.StreamSteps.{ok_as}
use Rattle.szg_build.proofs.Writers.WritingLaws.{mapped_item}
use Rattle.szg_build.proofs.writing.streaming.put_flags_of.Goals as goal

pub returns-in-Dtz-clause-written : goal.returns-in-Dtz-clause-written
returns-in-Dtz-clause-written g c =
    let x = c.args.index.now in
    let dtz : x.kind ≡ Dtz = sym c.kind.ensures ∙ c.in-Dtz.is in
    let at = flags_at x.kind (slots_in x) x.flags x.maps c.args.s dtz c.requires in
    let flags : get_or c.flags.result.now c.args.s 0 ≡ get_or x.flags c.args.s 0 = ap (λ (l : List ℕ). get_or l c.args.s 0) c.flags.ensures.flags in
    let below : c.args.s < length c.maps.result.now = let mapped : c.args.s < length x.maps = at.1 in let long : length c.maps.result.now ≡ length x.maps = sym (length-map c.maps.result.now (option_map map_of)) ∙ ap length c.maps.ensures in omega (arith, mapped, long) in
    let lists : option_map map_of c.index-maps-s.result ≡ get_or x.maps c.args.s None =
    sym (mapped_item c.maps.result.now (option_map map_of) c.args.s c.index-maps-s.result None below c.index-maps-s.is) ∙ ap (λ (l : List (Option Map)). get_or l c.args.s None) c.maps.ensures in
    ok_as (lines_text (flags_lines Dtz (record { flags = get_or c.flags.result.now c.args.s 0 % 32; lists = option_map map_of c.index-maps-s.result; values = [] }))) _ c.put_flags_and_map.result
    (ap (λ (n : ℕ). lines_text (flags_lines Dtz (record { flags = n % 32; lists = option_map map_of c.index-maps-s.result; values = [] }))) flags
    ∙ ap (λ (o : Option Map). lines_text (flags_lines Dtz (record { flags = get_or x.flags c.args.s 0 % 32; lists = o; values = [] }))) lists
    ∙ ap lines_text (sym at.2))
    c.put_flags_and_map.ensures
