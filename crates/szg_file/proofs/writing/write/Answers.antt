use Rattle.std.proofs.Common.{◌^◌, ◌<◌, [], length, refl, sym, ap, subst, ◌∙◌, append-nil, arith}
use Rattle.std.specs.Prelude.{Result, Ok, Err}
use Rattle.std.proofs.lemmas.Result.{err_from_is_err_and}
use Rattle.szg_file.specs.declared.fault.WriteFault.{WriteFault}
use Rattle.szg_file.specs.declared.writing.outgoing.Outgoing.{Outgoing}
use Rattle.szg_file.specs.declared.writing.writer.Writer.{Writer}
use Rattle.szg_file.specs.FileOf.{sections, joined, file_of}
use Rattle.szg_file.specs.Sections.{contents_in}
use Rattle.szg_file.specs.Writing.{Writing}
use Rattle.szg_file.proofs.Writers.WritingLaws.{writes_then, writes_as}
use Rattle.szg_file.proofs.Writers.WrittenFile.{file_written, writes_taken}
use Rattle.szg_file.proofs.writing.write.Goals as goal

pub returns-in_err-writer : goal.returns-in_err-writer
unfolding file_of
returns-in_err-writer g c =
    let t = c.args.table.now in
    let p = err_from_is_err_and c.from_residual.result c.from_residual.ensures.1 in
    let outgoing : Outgoing = record { out = 0; held = c.new.result; fill = c.deref.result } in
    let writer : Writer = record { outgoing = outgoing; result = Ok tt } in
    let fill = c.deref.ensures.value ∙ ap (λ v. v.filled) c.table.view_is in
    let below : length (joined [] (sections t.contents) t.filled) < 2 ^ 64 = omega (arith, c.bounded.ensures.short) in
    let taken = writes_as (ap sections (sym c.fields.ensures)) (writes_taken g.W.Output (sections (contents_in c.fields.result)) writer c.put_sections.new.sink c.args.output.now c.put_sections.new.out refl c.put_sections.ensures) in
    let w = file_written (sections t.contents) t.filled outgoing c.put_sections.new.sink.outgoing (Err c.in_err-writer.field-0.0)
    refl c.new.ensures fill tt below
    (subst (λ (r : Result (Unit {0}) WriteFault). Writing (sections t.contents) outgoing c.put_sections.new.sink.outgoing g.W.Output c.args.output.now c.put_sections.new.out r) c.in_err-writer.was taken) in
    rw (p.1, p.2) (record { ok = w.ok; err = w.err; short = w.short; failed = w.failed; quiet = w.quiet })

pub returns : goal.returns
unfolding file_of
returns g c =
    let t = c.args.table.now in
    let outgoing : Outgoing = record { out = 0; held = c.new.result; fill = c.deref.result } in
    let writer : Writer = record { outgoing = outgoing; result = Ok tt } in
    let fill = c.deref.ensures.value ∙ ap (λ v. v.filled) c.table.view_is in
    let below : length (joined [] (sections t.contents) t.filled) < 2 ^ 64 = omega (arith, c.bounded.ensures.short) in
    let taken = writes_as (ap sections (sym c.fields.ensures)) (writes_taken g.W.Output (sections (contents_in c.fields.result)) writer c.put_sections.new.sink c.args.output.now c.put_sections.new.out refl c.put_sections.ensures) in
    let whole = writes_as (sym (append-nil (sections t.contents))) (writes_then (sections t.contents) [] c.in_ok-writer.field-0
    (subst (λ (r : Result (Unit {0}) WriteFault). Writing (sections t.contents) outgoing c.put_sections.new.sink.outgoing g.W.Output c.args.output.now c.put_sections.new.out r) c.in_ok-writer.was taken) c.flush.ensures.none) in
    let w = file_written (sections t.contents) t.filled outgoing c.flush.new.outgoing c.flush.result
    refl c.new.ensures fill c.flush.ensures.held below whole in
    record { ok = w.ok; err = w.err; short = w.short; failed = w.failed; quiet = w.quiet }
