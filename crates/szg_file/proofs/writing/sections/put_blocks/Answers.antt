use Rattle.std.proofs.Common.{refl, ap}
use Rattle.szg_file.specs.FileOf.{blocks_sections}
use Rattle.szg_file.specs.Held.{subtable_of}
use Rattle.szg_file.proofs.Writers.SectionLaws.{took_none, took_field, took_more, took_as}
use Rattle.szg_file.proofs.writing.sections.put_blocks.Goals as goal

pub returns-in-Pairs : goal.returns-in-Pairs
returns-in-Pairs g c =
    let takes = g.S.SectionSink.takes in
    took_as takes (ap (λ sub. blocks_sections (subtable_of sub)) c.in-Pairs.is)
    (took_more takes refl c.padding.ensures (took_field takes c.deref.ensures.value c.bytes.ensures (took_none takes _ _)))
