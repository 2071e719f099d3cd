use Rattle.std.proofs.Common.{ℕ, List, ap}
use Rattle.std.specs.Prelude.{flat_map}
use Rattle.szg_file.specs.Contents.{bytes_of}
use Rattle.szg_file.specs.FileOf.{lengths_sections}
use Rattle.szg_file.specs.Held.{subtable_of}
use Rattle.szg_file.proofs.Writers.SectionLaws.{took_none, took_field, took_as}
use Rattle.szg_file.proofs.writing.sections.put_lengths.Goals as goal

pub returns-in-Pairs : goal.returns-in-Pairs
returns-in-Pairs g c =
    let takes = g.S.SectionSink.takes in
    took_as takes (ap (λ sub. lengths_sections (subtable_of sub)) c.in-Pairs.is)
    (took_field takes (ap (λ (z : List ℕ). flat_map (bytes_of 2) z) c.deref.ensures.value) c.numbers.ensures (took_none takes _ _))
