use Rattle.std.proofs.Common.{Ok, refl}
use Rattle.szg_words.specs.declared.request.Task.TheVariants.{OnTable}
use Rattle.szg_answers.proofs.StreamedFiles.{carried_on}
use Rattle.szg_answers.proofs.streaming.stream_from.Goals as goal

-- what is refused of the file that was opened first is refused of the file
pub returns-in-Err-Refused-clause-refused : goal.returns-in-Err-Refused-clause-refused
returns-in-Err-Refused-clause-refused g c = λ refusal is. (
  refl,
  (
    c.in-Ok.file,
    c.read_listed.new.file,
    record { unread = c.in-Ok.ensures.unread; coming = c.in-Ok.ensures.coming; kept = c.in-Ok.ensures.content; quiet = c.in-Ok.ensures.quiet },
    c.in-Err-Refused.ensures.refused refusal (cc),
  ),
)

-- the file was opened twice
pub returns-in-Ok-Ok-true-clause-stated : goal.returns-in-Ok-Ok-true-clause-stated
returns-in-Ok-Ok-true-clause-stated g c =
    carried_on g.S.FileSystem.content g.S.FileSystem.failures g.S.File.Input g.W.Output (OnTable c.args.request.now) c.args.source.now c.args.system.now c.open.new.self c.open-2.new.self c.args.writer.now c.write_listed.new.writer
    c.in-Ok.ensures.content c.in-Ok.ensures.quiet (
      c.in-Ok-open.again,
      c.write_listed.new.file,
      record { unread = c.in-Ok-open.ensures.unread; coming = c.in-Ok-open.ensures.coming; kept = c.in-Ok-open.ensures.content; quiet = c.in-Ok-open.ensures.quiet },
      c.write_listed.ensures.stated (cc),
    )
