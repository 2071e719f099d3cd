use Rattle.std.proofs.lemmas.Bool.{false≢true}
use Rattle.szg_answers.proofs.Endings.{listed_or, meets_from, short_from}
use Rattle.szg_answers.proofs.on_files.carry_out_from.Goals as goal

pub returns-in-Err-Device-clause-memory : goal.returns-in-Err-Device-clause-memory
returns-in-Err-Device-clause-memory g c = λ is. absurd (c.device_stop.ensures.memory (cc))

-- what is refused of the opened file's reader is refused of the file
pub returns-clause-refused : goal.returns-clause-refused
returns-clause-refused g c = λ refusal is.
    let met = c.in-Err-carry_out_to.ensures.refused refusal is in (
      met.0,
      rw (c.in-Some.is)
          (meets_from g.S.FileSystem.content g.S.FileSystem.failures g.S.File.Input g.R.Input g.W.Output c.args.task.now c.in-Some.path c.args.system.now c.open.new.self c.carry_out_to-2.new.system c.args.reader.now c.in-Ok.file c.carry_out_to-2.new.reader refusal
          (record { unread = c.in-Ok.ensures.unread; coming = c.in-Ok.ensures.coming; kept = c.in-Ok.ensures.content; quiet = c.in-Ok.ensures.quiet })
          met.1),
    )

pub returns-clause-failed : goal.returns-clause-failed
returns-clause-failed g c = λ failure is. listed_or (λ listing. absurd (false≢true listing.0.1)) (λ unwritten. unwritten) (c.in-Err-carry_out_to.ensures.failed failure is)

pub returns-clause-device : goal.returns-clause-device
returns-clause-device g c = λ is. listed_or (λ listing. absurd (false≢true listing.0.1)) (λ unwritten. unwritten) (c.in-Err-carry_out_to.ensures.device is)

pub returns-clause-memory : goal.returns-clause-memory
returns-clause-memory g c = λ is.
    listed_or (λ listing. absurd (false≢true listing.0.1))
    (λ short. rw (c.in-Some.is)
    (short_from g.S.FileSystem.content g.S.FileSystem.failures g.S.File.Input g.R.Input g.W.Output c.args.task.now c.in-Some.path c.args.system.now c.open.new.self c.carry_out_to-2.new.system c.args.reader.now c.in-Ok.file c.carry_out_to-2.new.reader c.args.writer.now c.carry_out_to-2.new.writer
    (record { unread = c.in-Ok.ensures.unread; coming = c.in-Ok.ensures.coming; kept = c.in-Ok.ensures.content; quiet = c.in-Ok.ensures.quiet })
    short))
    (c.in-Err-carry_out_to.ensures.memory is)
