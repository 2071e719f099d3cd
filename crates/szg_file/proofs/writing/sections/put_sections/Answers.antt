use Rattle.std.proofs.Common.{[], ◌∷◌, ◌++◌, List, Option, ap, refl}
use Rattle.std.specs.Prelude.{map, flat_map, option_map}
use Rattle.szg_file.specs.File.{magic_of}
use Rattle.szg_file.specs.FileOf.{Section, written, padding, part_sections, head_sections, map_sections, maps_sections, sparse_sections, lengths_sections, blocks_sections}
use Rattle.szg_file.specs.Contents.{Contents, Map}
use Rattle.szg_file.specs.Held.{map_of, part_of, subtable_of}
use Rattle.szg_file.specs.Sections.{Took, contents_in}
use Rattle.szg_file.proofs.Writers.SectionLaws.{took_as, took_none, took_field, took_more, took_then, took_mapped}
use Rattle.szg_file.proofs.writing.sections.put_sections.Goals.{in-Dtz, in_default}
use Rattle.szg_file.proofs.writing.sections.put_sections.Goals as goal

pub returns : goal.returns
returns g c =
    let takes = g.S.SectionSink.takes in
    let t : Contents = contents_in c.args.fields.now in
    let parts : List Section = written (magic_of t.kind) ∷ written (t.byte4 ∷ []) ∷ flat_map part_sections t.parts in
    let heads : List Section = padding 2 ∷ flat_map head_sections t.subtables in
    let maps : List Section = maps_sections t.kind t.maps in
    let indexes : List Section = flat_map sparse_sections t.subtables in
    let lengths : List Section = flat_map lengths_sections t.subtables in
    let blocks : List Section = flat_map blocks_sections t.subtables in
    let ending : List Section = padding 64 ∷ written t.last ∷ [] in
    let lists : List (Option Map) = map (option_map map_of) c.args.fields.now.maps.now in
    let took_maps : Took takes maps c.put_each-2.new.sink c.put_each-2.new.out c.match-kind.sink c.match-kind.out = elim c.match-kind.branch [
      | in-Dtz w ↦
          rw (w.sink-is, w.out-is)
          (took_as takes (ap (λ kind. maps_sections kind lists) w.in-Dtz.is)
          (took_then takes (flat_map map_sections lists) (padding 2 ∷ [])
          (took_mapped takes map_sections (option_map map_of) c.args.fields.now.maps.now (w.put_each-in-Dtz.ensures (λ item. map_sections (option_map map_of item)) (λ item sink rest out left said. said)))
          (took_more takes refl w.padding-in-Dtz.ensures (took_none takes _ _))))
      | in_default w ↦ rw (w.sink-is, w.out-is) (took_as takes (ap (λ kind. maps_sections kind lists) w.in_default.is) (took_none takes _ _))
    ] in
    took_then takes (((((parts ++ heads) ++ maps) ++ indexes) ++ lengths) ++ blocks) ending
    (took_then takes ((((parts ++ heads) ++ maps) ++ indexes) ++ lengths) blocks
    (took_then takes (((parts ++ heads) ++ maps) ++ indexes) lengths
    (took_then takes ((parts ++ heads) ++ maps) indexes
    (took_then takes (parts ++ heads) maps
    (took_then takes parts heads
    (took_field takes c.magic.ensures c.bytes.ensures
    (took_field takes refl c.bytes-2.ensures
    (took_mapped takes part_sections part_of c.args.fields.now.parts.now (c.put_each.ensures (λ part. part_sections (part_of part)) (λ item sink rest out left said. said)))))
    (took_more takes refl c.padding.ensures
    (took_mapped takes head_sections subtable_of c.args.fields.now.subs.now (c.put_each-2.ensures (λ sub. head_sections (subtable_of sub)) (λ item sink rest out left said. said)))))
    took_maps)
    (took_mapped takes sparse_sections subtable_of c.args.fields.now.subs.now (c.put_each-3.ensures (λ sub. sparse_sections (subtable_of sub)) (λ item sink rest out left said. said))))
    (took_mapped takes lengths_sections subtable_of c.args.fields.now.subs.now (c.put_each-4.ensures (λ sub. lengths_sections (subtable_of sub)) (λ item sink rest out left said. said))))
    (took_mapped takes blocks_sections subtable_of c.args.fields.now.subs.now (c.put_each-5.ensures (λ sub. blocks_sections (subtable_of sub)) (λ item sink rest out left said. said))))
    (took_more takes refl c.padding-2.ensures (took_field takes refl c.bytes-3.ensures (took_none takes _ _)))
