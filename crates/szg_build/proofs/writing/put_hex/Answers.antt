use Rattle.std.proofs.Common.{sym, arith}
use Rattle.std.proofs.lemmas.Result.{err_from_is_err_and}
use Rattle.szg_build.proofs.Writers.WritingLaws.{byte_digits, digits_of_bytes, writes_next, writes_next_stopped, writes_all, writes_as}
use Rattle.szg_build.proofs.writing.put_hex.Goals as goal

pub bytes-preserved : goal.bytes-preserved
bytes-preserved g c =
    writes_next byte_digits c.args.bytes.now c.bytes.byte-index 0 c.in_ok-put.field-0 c.bytes-test.true c.bytes.invariant
    (writes_as (sym c.in-Ok.ensures.written) c.in_ok-put.ensures)

pub returns-in_err-put : goal.returns-in_err-put
returns-in_err-put g c =
    let p = err_from_is_err_and c.from_residual.result c.from_residual.ensures.1 in
    rw (p.1, p.2) (writes_as (digits_of_bytes c.args.bytes.now)
    (writes_next_stopped byte_digits c.args.bytes.now c.bytes.byte-index 0 c.in_err-put.field-0.0 c.bytes-test.true c.bytes.invariant
    (writes_as (sym c.in-Ok.ensures.written) c.in_err-put.ensures)))

pub returns : goal.returns
returns g c =
    writes_as (digits_of_bytes c.args.bytes.now) (writes_all byte_digits c.args.bytes.now c.bytes.byte-index (omega arith) c.bytes.invariant)
