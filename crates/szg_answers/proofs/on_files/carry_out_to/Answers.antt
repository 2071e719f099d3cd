use Rattle.std.proofs.Common.{◌∙◌, ℕ, List, Some, ap, refl, sym}
use Rattle.szg_files.specs.Draft.{text_of}
use Rattle.szg_answers.proofs.Endings.{done_in}
use Rattle.szg_answers.proofs.on_files.carry_out_to.Goals as goal

-- what is refused of the task is refused
pub returns-in-Err-clause-refused : goal.returns-in-Err-clause-refused
returns-in-Err-clause-refused g c = λ refusal is. c.in-Err.ensures.refused refusal (cc)

-- the answer that the draft was given is in the file
pub returns-in-Ok-published-clause-stated : goal.returns-in-Ok-published-clause-stated
returns-in-Ok-published-clause-stated g c =
    rw (c.in-Some.is)
    (done_in g.S.FileSystem.content g.S.FileSystem.failures g.S.File.Input g.R.Input _ g.W.Output c.args.task.now c.in-Some.target c.args.system.now c.carry_out_on-2.new.system c.args.reader.now c.carry_out_on-2.new.reader
    c.in-Ok-create.draft.file c.carry_out_on-2.new.writer c.args.writer.now (text_of c.in-Ok-create.draft.file) c.in-Ok-published.published c.args.source
    refl c.in-Ok-create.ensures.empty (ap (λ (bytes : List ℕ). Some bytes) (sym c.in-Ok-published.ensures.text)) (c.in-Ok-published.ensures.target ∙ c.in-Ok-create.ensures.target) c.in-Ok-carry_out_on.ensures.stated)

pub returns-in-Err-Device-clause-memory : goal.returns-in-Err-Device-clause-memory
returns-in-Err-Device-clause-memory g c = λ is. absurd (c.device_stop.ensures.memory (cc))
