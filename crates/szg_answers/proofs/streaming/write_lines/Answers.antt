use Rattle.std.proofs.Common.{◌≡◌, ℕ, List, ◌++◌, flat_map, sym, ap, subst, ◌∙◌}
use Rattle.szg_io.proofs.DeviceLaws.{Gives-on}
use Rattle.szg_file.specs.Streaming.{only, wanted_of}
use Rattle.szg_answers.specs.Answers.{IsAnswer, number_line}
use Rattle.szg_words.specs.declared.request.Action.{Action}
use Rattle.szg_answers.proofs.SinkLines.{accepted_lines, line_accepts}
use Rattle.szg_answers.proofs.StreamedFiles.{is_table_of, lines_of_part, size_read}
use Rattle.szg_file.proofs.Readers.StreamedRead.{file_taken}
use Rattle.szg_answers.proofs.streaming.write_lines.Goals as goal

pub returns-in-Ok-say : goal.returns-in-Ok-say
returns-in-Ok-say g c =
    let part = c.args.request.now.part in
    let side = c.args.request.now.side in
    let read = c.in-Ok.ensures.scanned in
    let t = read.table in
    let values : List ℕ = wanted_of (only part side) t.contents in
    let lines = accepted_lines g.W.Output values _ c.scan.new.sink c.args.writer.now c.scan.new.out read.accepted in
    let there = sym c.in-Some.is ∙ size_read c.in-Ok.scanned.index t c.size.result part side read.index_is read.read.table.accepted c.size.ensures in
    let text : List ℕ = lines.0 ++ c.deref.result.now in
    let stated : text ≡ flat_map number_line values =
    ap (λ (z : List ℕ). lines.0 ++ z) c.deref.ensures.value ∙ lines.2 ∙ ap (λ (z : List ℕ). z ++ flat_map number_line values) c.new.ensures.items in
    record {
      stated = λ is. record {
        table = t;
        queried = is_table_of c.args.request.now c.args.material t c.requires.material c.requires.name read.read.table;
        taken = file_taken g.F.Input c.args.material c.args.request.now.kind c.args.file.now c.scan.new.input read.table read.read;
        text = text;
        answers = subst (λ (a : Action). IsAnswer a part side t text) (sym c.requires.values) (lines_of_part t.contents part side _ text there stated);
        given = Gives-on lines.0 c.deref.result.now 0 lines.1 c.in-Ok-say.ensures.given;
      };
    }
