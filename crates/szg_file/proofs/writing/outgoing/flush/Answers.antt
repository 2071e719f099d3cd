use Rattle.std.proofs.lemmas.Result.{err_from_is_err_and}
use Rattle.szg_file.proofs.Writers.WritingLaws.{writes_held_stopped}
use Rattle.szg_file.proofs.writing.outgoing.flush.Goals as goal

pub returns-in_err-outgoing-clause-none : goal.returns-in_err-outgoing-clause-none
returns-in_err-outgoing-clause-none g c =
    let f = c.in_err-outgoing.ensures.fault in
    let p = err_from_is_err_and c.from_residual.result c.from_residual.ensures.1 in
    rw (p.1, p.2) (writes_held_stopped c.args.outgoing.now _ c.as_slice.result.now f.0 c.in_err-outgoing.field-0.0 c.as_slice.ensures.value f.1 f.2 f.3 c.in_err-outgoing.ensures.failed)
