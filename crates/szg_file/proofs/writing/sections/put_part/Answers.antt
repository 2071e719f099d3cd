use Rattle.szg_file.proofs.Writers.SectionLaws.{took_none, took_field}
use Rattle.szg_file.proofs.writing.sections.put_part.Goals as goal

pub returns : goal.returns
returns g c =
    let takes = g.S.SectionSink.takes in
    took_field takes c.deref.ensures.value c.bytes.ensures (took_field takes c.deref-2.ensures.value c.bytes-2.ensures (took_none takes _ _))
