use Rattle.std.proofs.Common.{◌≡◌, ℕ, List, length, take, ap, ◌∙◌, arith}
use Rattle.std.specs.Prelude.{flat_map}
use Rattle.szg_file.specs.Contents.{bytes_of}
use Rattle.szg_file.proofs.Writers.SectionLaws.{took_none, took_field}
use Rattle.szg_file.proofs.Writers.WritingLaws.{two_bytes_of}
use Rattle.szg_file.proofs.writing.sections.put_wide_list.Goals as goal

pub returns : goal.returns
returns g c =
    let takes = g.S.SectionSink.takes in
    let count : c.len.result ≡ length c.args.list.now.items = omega (arith, c.len.ensures, c.args.list.now.ok.0) in
    took_field takes (ap (λ (z : List ℕ). take 2 z) c.to_le_bytes.ensures ∙ two_bytes_of c.len.result ∙ ap (bytes_of 2) count) c.bytes.ensures
    (took_field takes (ap (λ (z : List ℕ). flat_map (bytes_of 2) z) c.deref.ensures.value) c.numbers.ensures (took_none takes _ _))
