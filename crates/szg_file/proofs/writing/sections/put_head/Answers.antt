use Rattle.std.proofs.Common.{◌≡◌, ℕ, ◌%◌, List, [], ◌∷◌, ◌∙◌, refl, ap}
use Rattle.std.specs.Prelude.{flat_map}
use Rattle.szg_file.specs.Contents.{bytes_of}
use Rattle.szg_file.specs.FileOf.{head_sections, spare}
use Rattle.szg_file.specs.Held.{subtable_of}
use Rattle.szg_file.proofs.Writers.SectionLaws.{took_none, took_field, took_more, took_as}
use Rattle.szg_file.proofs.Writers.WritingLaws.{four_bytes_of}
use Rattle.szg_file.proofs.writing.sections.put_head.Goals as goal

pub returns-in-Constant : goal.returns-in-Constant
returns-in-Constant g c =
    let takes = g.S.SectionSink.takes in
    took_as takes (ap (λ sub. head_sections (subtable_of sub)) c.in-Constant.is)
    (took_field takes refl c.bytes.ensures (took_field takes refl c.bytes-in-Constant.ensures (took_none takes _ _)))

pub returns-in-Pairs : goal.returns-in-Pairs
returns-in-Pairs g c =
    let takes = g.S.SectionSink.takes in
    let w = c.in-Pairs in
    let blocks : c.to_le_bytes.result ≡ bytes_of 4 w.blocks = c.to_le_bytes.ensures ∙ four_bytes_of w.blocks in
    let count = c.symbols-count.ensures.number in
    took_as takes (ap (λ sub. head_sections (subtable_of sub)) w.is)
    (took_field takes {bytes = w.flags ∷ []} refl c.bytes-in-Pairs.ensures
    (took_field takes {bytes = w.block_bits ∷ []} refl c.bytes-in-Pairs-2.ensures
    (took_field takes {bytes = w.span_bits ∷ []} refl c.bytes-in-Pairs-3.ensures
    (took_field takes {bytes = w.extra ∷ []} refl c.bytes-in-Pairs-4.ensures
    (took_field takes {bytes = bytes_of 4 w.blocks} blocks c.bytes-in-Pairs-5.ensures
    (took_field takes (ap (λ (n : ℕ). n ∷ []) c.max.ensures) c.bytes-in-Pairs-6.ensures
    (took_field takes (ap (λ (n : ℕ). n ∷ []) c.min.ensures) c.bytes-in-Pairs-7.ensures
    (took_field takes (ap (λ (z : List ℕ). flat_map (bytes_of 2) z) c.lowest.ensures) c.numbers.ensures
    (took_field takes (c.to_le_bytes-in-Pairs.ensures ∙ ap (bytes_of 2) count) c.bytes-in-Pairs-8.ensures
    (took_field takes refl c.symbols.ensures
    (took_more takes (ap (λ (n : ℕ). spare (n % 2)) count) c.spare.ensures (took_none takes _ _))))))))))))
