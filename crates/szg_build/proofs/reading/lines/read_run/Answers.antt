use Rattle.std.proofs.Common.{ap, sym, length, arith}
use Rattle.std.proofs.lemmas.Result.{err_from_is_err_and}
use Rattle.szg_build.specs.Fronts.{lines_after}
use Rattle.szg_build.specs.Lines.{words_of}
use Rattle.szg_build.specs.Grammar.{run_line}
use Rattle.szg_build.proofs.Readers.LineParses.{reads_parsed, reads_unread, no_memory, short_after}
use Rattle.szg_build.proofs.Readers.ReadingLaws.{passed_on}
use Rattle.szg_build.proofs.reading.lines.read_run.Goals as goal

pub returns-in_err-text-clause-lines : goal.returns-in_err-text-clause-lines
returns-in_err-text-clause-lines g c =
    let p = err_from_is_err_and c.from_residual.result c.from_residual.ensures.1 in
    rw (p.1, p.2) (reads_unread (lines_after (run_line c.args.left)) (λ text. words_of text.items) (λ run. run) c.in_err-text.field-0.0 c.in_err-text.ensures.line)

pub returns-clause-lines : goal.returns-clause-lines
returns-clause-lines g c =
    reads_parsed (lines_after (run_line c.args.left)) (λ run. run) (λ text. words_of text.items) c.as_slice.result.now c.in_ok-text.text c.parse_run.result c.with_line.result
    (ap words_of (sym c.as_slice.ensures.value)) c.in_ok-text.ensures.line c.parse_run.ensures.run c.with_line.ensures

pub returns-in_err-text-clause-memory : goal.returns-in_err-text-clause-memory
returns-in_err-text-clause-memory g c = passed_on c.from_residual.ensures.1 c.in_err-text.ensures.memory

pub returns-clause-memory : goal.returns-clause-memory
returns-clause-memory g c = no_memory _ c.parse_run.result c.with_line.result c.with_line.ensures

pub returns-clause-following : goal.returns-clause-following
returns-clause-following g c =
    short_after _ c.parse_run.result c.with_line.result c.with_line.ensures c.parse_run.ensures.long (λ long. c.in_ok-text.ensures.following (omega (arith, long, ap length c.as_slice.ensures.value)))
