use Rattle.std.proofs.Common.{◌≡◌, inl, inr}
use Rattle.szg_answers.proofs.Outcomes.{OnRefused-then}
use Rattle.szg_answers.proofs.commands.run_by.Goals as goal

-- where a request is refused, nothing was written before
pub returns-in-Err-Refused-clause-device : goal.returns-in-Err-Refused-clause-device
returns-in-Err-Refused-clause-device g c = λ stated.
    let kept : c.carry_out.new.writer ≡ c.args.writer.now = (c.in-Err-Refused.ensures.refused c.in-Err-Refused.refusal (cc)).0 in
    inr (rw (← kept) (c.refuse.ensures.device stated))

pub returns-in-Err-Refused-clause-memory : goal.returns-in-Err-Refused-clause-memory
returns-in-Err-Refused-clause-memory g c = λ stated.
    let kept : c.carry_out.new.writer ≡ c.args.writer.now = (c.in-Err-Refused.ensures.refused c.in-Err-Refused.refusal (cc)).0 in
    inl (rw (← kept) (c.refuse.ensures.memory stated))

-- the line that is written is that of the refusal
pub returns-in-Err-Refused-clause-refused : goal.returns-in-Err-Refused-clause-refused
returns-in-Err-Refused-clause-refused g c =
    let met = c.in-Err-Refused.ensures.refused c.in-Err-Refused.refusal (cc) in
    let kept : c.carry_out.new.writer ≡ c.args.writer.now = met.0 in
    OnRefused-then c.refuse.result
    (λ stated. (c.in-Ok.task, c.in-Ok.ensures.queried, record { refusal = c.in-Err-Refused.refusal; met = met.1; given = rw (← kept) stated }))
    c.refuse.ensures.refused
