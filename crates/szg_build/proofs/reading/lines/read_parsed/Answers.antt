use Rattle.std.proofs.Common.{rules, inl, inr, refl, arith}
use Rattle.std.proofs.lemmas.Result.{err_from_is_err_and}
use Rattle.szg_build.proofs.Readers.GoingLaws.{reads_seen, reads_fault}
use Rattle.szg_build.proofs.Readers.LineParses.{no_memory}
use Rattle.szg_build.proofs.Readers.ReadingLaws.{passed_on}
use Rattle.szg_build.proofs.reading.lines.read_parsed.Goals as goal

pub returns-in_err-text-clause-memory : goal.returns-in_err-text-clause-memory
returns-in_err-text-clause-memory g c = passed_on c.from_residual.ensures.1 c.in_err-text.ensures.memory

pub returns-clause-memory : goal.returns-clause-memory
returns-clause-memory g c = no_memory _ c.parse.result c.with_line.result c.with_line.ensures

pub returns-clause-lines : goal.returns-clause-lines
returns-clause-lines g c =
    inl (c.in_ok-text.text.items, c.parse.result, (c.as_slice.result, c.parse.ensures, c.as_slice.ensures.value), reads_seen c.in_ok-text.ensures.line refl, c.with_line.ensures)

pub returns-in_err-text-clause-lines : goal.returns-in_err-text-clause-lines
returns-in_err-text-clause-lines g c =
    let p = err_from_is_err_and c.from_residual.result c.from_residual.ensures.1 in
    rw (p.1, p.2) (inr (c.in_err-text.field-0.0, reads_fault c.in_err-text.field-0.0 c.in_err-text.ensures.line, refl))

pub returns-clause-following : goal.returns-clause-following
returns-clause-following g c = let few = c.in_ok-text.ensures.following (omega arith) in search rules
