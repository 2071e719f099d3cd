use Rattle.std.proofs.Common.{inr}
use Rattle.szg_answers.proofs.Endings.{EndsTask-then}
use Rattle.szg_answers.proofs.on_files.run_look_up.Goals as goal

-- the line that is written is that of the refusal
pub returns-in-Err-Refused : goal.returns-in-Err-Refused
returns-in-Err-Refused g c =
    EndsTask-then c.refused.result (λ published none. absurd none)
    (λ given. (
      c.in-Ok.file,
      record { unread = c.in-Ok.ensures.unread; coming = c.in-Ok.ensures.coming; kept = c.in-Ok.ensures.content; quiet = c.in-Ok.ensures.quiet },
      c.in-Err-Refused.refusal,
      c.in-Err-Refused.ensures.refused c.in-Err-Refused.refusal (cc),
      given,
    ))
    (λ failed. inr failed)
    (λ stays. stays)
    c.refused.ensures
