use Rattle.std.proofs.Common.{refl}
use Rattle.szg_answers.proofs.Endings.{if_ok_then}
use Rattle.szg_answers.proofs.on_files.carry_out_on.Goals as goal

-- without a file the task is carried out on the reader
pub returns-in-Err-Refused-clause-refused : goal.returns-in-Err-Refused-clause-refused
returns-in-Err-Refused-clause-refused g c = λ refusal is.
    let met = c.in-Err-Refused.ensures.refused refusal (cc) in
    rw (c.in-None.is) (met.0, (refl, met.1))

pub returns-clause-stated : goal.returns-clause-stated
returns-clause-stated g c = rw (c.in-Some.is) (rw (c.in-OnTable.is) (if_ok_then c.stream_from.result (λ _ done. (refl, done)) c.stream_from.ensures.stated))

pub returns-clause-refused : goal.returns-clause-refused
returns-clause-refused g c = λ refusal is.
    let met = c.stream_from.ensures.refused refusal is in
    rw (c.in-Some.is) (rw (c.in-OnTable.is) (met.0, (refl, met.1)))
