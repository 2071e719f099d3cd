use Rattle.std.proofs.Common.{◌≡◌, ◌∷◌, refl, rules}
use Rattle.std.specs.Prelude.{map, flat_map, option_map}
use Rattle.szg_file.specs.FileOf.{padding, list_sections, map_sections}
use Rattle.szg_file.specs.Held.{map_of}
use Rattle.szg_file.proofs.Writers.SectionLaws.{took_more, took_as, took_mapped}
use Rattle.szg_file.proofs.writing.sections.put_map.Goals as goal

pub returns-in-Some-Bytes : goal.returns-in-Some-Bytes
returns-in-Some-Bytes g c =
    let takes = g.S.SectionSink.takes in
    let same : map_sections (option_map map_of c.args.map.now) ≡ flat_map (list_sections 1) (map (λ list. list.items) c.in-Some-Bytes.lists) = search rules in
    took_as takes same
    (took_mapped takes (list_sections 1) (λ list. list.items) c.in-Some-Bytes.lists (c.put_each.ensures (λ list. list_sections 1 list.items) (λ item sink rest out left said. said)))

pub returns-in-Some-Wide : goal.returns-in-Some-Wide
returns-in-Some-Wide g c =
    let takes = g.S.SectionSink.takes in
    let same : map_sections (option_map map_of c.args.map.now) ≡ padding 2 ∷ flat_map (list_sections 2) (map (λ list. list.items) c.in-Some-Wide.lists) = search rules in
    took_as takes same
    (took_more takes refl c.padding.ensures
    (took_mapped takes (list_sections 2) (λ list. list.items) c.in-Some-Wide.lists (c.put_each-in-Some-Wide.ensures (λ list. list_sections 2 list.items) (λ item sink rest out left said. said))))
