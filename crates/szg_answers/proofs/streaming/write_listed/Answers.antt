use Rattle.std.proofs.Common.{ℕ, List, sym, ap, subst}
use Rattle.szg_values.specs.declared.Kind.{Kind}
use Rattle.szg_file.specs.WholeRead.{IsTable}
use Rattle.szg_build.specs.Shown.{form_of}
use Rattle.szg_build.specs.Text.{dump_text}
use Rattle.szg_answers.specs.Answers.{IsAnswer}
use Rattle.szg_words.specs.declared.request.Action.{Action}
use Rattle.szg_answers.proofs.StreamedFiles.{is_table_of}
use Rattle.szg_answers.proofs.streaming.write_listed.Goals as goal

pub returns-in-Dump : goal.returns-in-Dump
returns-in-Dump g c =
    let request = c.args.request.now in
    let x = c.args.checked.now.index in
    record {
      stated = λ is.
          let dumped = c.stream_dump.ensures.dumped is in
          let t = dumped.0 in
          let dump = dumped.4 in
          let text : List ℕ = dump_text (form_of c.number.result) dump in
          record {
            table = t;
            queried = is_table_of request x.material t c.requires.material c.requires.name (subst (λ (k : Kind). IsTable x.material k t) c.requires.kind dumped.1);
            taken = dumped.3;
            text = text;
            answers = subst (λ (a : Action). IsAnswer a request.part request.side t text) (sym c.in-Dump.is) (dump, dumped.5, ap (λ (n : ℕ). dump_text (form_of n) dump) c.number.ensures.number);
            given = dumped.6;
          };
    }
