use Rattle.std.proofs.Common.{◌≡◌, true, false, refl, sym, ap, ◌∙◌}
use Rattle.std.specs.Prelude.{Bool, not, bytes_eq}
use Rattle.std.proofs.lemmas.Slice.Eq.{bytes_eq-Decides}
use Rattle.szg_file.specs.Index.{Index, index_of}
use Rattle.szg_file.specs.Streaming.{wanted_of}
use Rattle.szg_file.proofs.Readers.StreamedRead.{file_taken}
use Rattle.szg_build.specs.Streaming.{Goes}
use Rattle.szg_build.specs.declared.writing.dump_sink.DumpSink.{DumpSink}
use Rattle.szg_build.proofs.Texts.OwnDumps.{own_dump}
use Rattle.szg_build.proofs.Writers.StreamLaws.{all_wanted}
use Rattle.szg_build.proofs.Writers.StreamSteps.{accepted_goes}
use Rattle.szg_build.proofs.Writers.StreamedDumps.{own_dump_is, same_index, streamed_text}
use Rattle.szg_build.proofs.writing.dumping.stream_dump.Goals as goal

same_bytes : (is_same : Bool) → false ≡ not is_same → is_same ≡ true
same_bytes true e = refl
same_bytes false e = absurd cc

pub returns-in-Ok-end_dump-clause-dumped : goal.returns-in-Ok-end_dump-clause-dumped
returns-in-Ok-end_dump-clause-dumped g c = λ is.
    let x : Index = c.args.index.now in
    let sink : DumpSink = c.in-Ok.sink in
    let material : c.copy-material.result ≡ x.material = c.copy-material.ensures ∙ c.material.ensures in
    let kind : c.kind.result ≡ x.kind = c.kind.ensures in
    let read = c.in-Ok-scan.ensures.scanned in
    let t = read.table in
    let is_valid = read.read.table in
    let same = c.if-not-has_same.ensures.0 refl in
    let last : c.in-Ok-scan.scanned.last ≡ c.args.last.now =
    (bytes_eq-Decides c.in-Ok-scan.scanned.last c.args.last.now).0 (same_bytes (bytes_eq c.in-Ok-scan.scanned.last c.args.last.now) c.if-ne.ensures) in
    let is : x ≡ index_of t.contents =
    same_index x (index_of t.contents) (sym (is_valid.material_is ∙ material)) (sym (is_valid.kind_is ∙ kind))
    (sym same.0 ∙ ap (λ (y : Index). y.parts) read.index_is)
    (sym same.1 ∙ ap (λ (y : Index). y.flags) read.index_is)
    (sym same.2 ∙ ap (λ (y : Index). y.maps) read.index_is) in
    let ends : c.args.last.now ≡ t.contents.last = sym last ∙ read.last_is in
    let goes = accepted_goes g.W.Output (wanted_of all_wanted t.contents) sink c.begin_dump.new.output c.scan.new.sink c.scan.new.out read.accepted in (
      t,
      record { material_is = is_valid.material_is ∙ material; kind_is = is_valid.kind_is ∙ kind; accepted = is_valid.accepted },
      is,
      file_taken g.R.Input c.copy-material.result c.kind.result c.args.input.now c.scan.new.input t read.read,
      own_dump t.contents,
      own_dump_is t,
      streamed_text g.W.Output c.args.form x c.args.last.now t sink c.scan.new.sink c.args.output.now c.begin_dump.new.output c.scan.new.out c.end_dump.new.output
          c.in-Ok.ensures.index c.in-Ok.ensures.begun c.in-Ok.ensures.given goes c.in-Ok-end_dump.ensures.given is ends is_valid.accepted,
    )
