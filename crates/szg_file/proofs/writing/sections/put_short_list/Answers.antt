use Rattle.std.proofs.Common.{◌≡◌, ℕ, List, length, take, sym, ap, ◌∙◌, arith}
use Rattle.szg_file.specs.Contents.{bytes_of}
use Rattle.szg_file.proofs.Writers.SectionLaws.{took_none, took_field}
use Rattle.szg_file.proofs.Writers.WritingLaws.{one_byte_of, ones_of}
use Rattle.szg_file.proofs.writing.sections.put_short_list.Goals as goal

pub returns : goal.returns
returns g c =
    let takes = g.S.SectionSink.takes in
    let list : List ℕ = c.args.list.now.items in
    let count : c.len.result ≡ length list = omega (arith, c.len.ensures, c.args.list.now.ok.0) in
    took_field takes (ap (λ (z : List ℕ). take 1 z) c.to_le_bytes.ensures ∙ one_byte_of c.len.result ∙ ap (bytes_of 1) count) c.bytes.ensures
    (took_field takes (c.deref.ensures.value ∙ sym (ones_of list c.type_inv.list)) c.bytes-2.ensures (took_none takes _ _))
