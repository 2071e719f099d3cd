use Rattle.std.proofs.Common.{◌≡◌, ◌∙◌, inr}
use Rattle.szg_answers.proofs.Endings.{EndsTask-then, short_refused}
use Rattle.szg_answers.proofs.on_files.run_task.Goals as goal

-- where the task is refused nothing was written before its line
pub returns-in-Err-Refused : goal.returns-in-Err-Refused
returns-in-Err-Refused g c =
    let met = c.in-Err-Refused.ensures.refused c.in-Err-Refused.refusal (cc) in
    let kept : c.carry_out_from.new.writer ≡ c.args.writer.now = met.0 in
    EndsTask-then c.refused.result (λ published none. absurd none) (λ given. (c.in-Err-Refused.refusal, met.1, rw (← kept) given)) (λ failed. inr (inr (rw (← kept) failed)))
    (λ stays. inr (short_refused g.S.FileSystem.content g.S.FileSystem.failures g.S.File.Input g.R.Input g.W.Output c.args.task.now c.args.system.now c.carry_out_from.new.system c.args.reader.now c.carry_out_from.new.reader c.args.writer.now c.refused.new.writer c.args.source c.in-Err-Refused.refusal met.1 (stays ∙ kept)))
    c.refused.ensures
