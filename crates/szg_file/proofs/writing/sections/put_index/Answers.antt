use Rattle.std.proofs.Common.{ℕ, List, ◌++◌, ap}
use Rattle.std.specs.Prelude.{map, flat_map}
use Rattle.szg_block.specs.Layout.{SparseEntry}
use Rattle.szg_file.specs.Contents.{bytes_of}
use Rattle.szg_file.specs.FileOf.{sparse_sections}
use Rattle.szg_file.specs.Held.{sparse_of, subtable_of}
use Rattle.szg_file.proofs.Writers.SectionLaws.{took_none, took_field, took_as}
use Rattle.szg_file.proofs.writing.sections.put_index.Goals as goal

abbrev entry_bytes : SparseEntry → List ℕ
entry_bytes entry = bytes_of 4 entry.block ++ bytes_of 2 entry.offset

pub returns-in-Pairs : goal.returns-in-Pairs
returns-in-Pairs g c =
    let takes = g.S.SectionSink.takes in
    took_as takes (ap (λ sub. sparse_sections (subtable_of sub)) c.in-Pairs.is)
    (took_field takes (ap (λ z. flat_map entry_bytes (map sparse_of z)) c.deref.ensures.value) c.entries.ensures (took_none takes _ _))
