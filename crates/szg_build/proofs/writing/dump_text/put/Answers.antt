use Rattle.std.proofs.Common.{[]}
use Rattle.std.proofs.lemmas.Result.{err_from_is_err_and}
use Rattle.szg_build.proofs.Writers.WritingLaws.{writes_stopped}
use Rattle.szg_build.proofs.writing.dump_text.put.Goals as goal

pub returns-in_err-flush : goal.returns-in_err-flush
returns-in_err-flush g c =
    let p = err_from_is_err_and c.from_residual.result c.from_residual.ensures.1 in
    rw (p.1, p.2) (writes_stopped [] c.args.chunk.now c.in_err-flush.field-0.0 c.in_err-flush.ensures.none)
