use Rattle.std.proofs.Common.{map, inl, inr, None, refl, rules, sym}
use Rattle.szg_archive.specs.Verdicts.{plain_options}
use Rattle.szg_answers.proofs.Endings.{EndsTask-then, check_ends_well, checked_so, ends_well, listed_or}
use Rattle.szg_answers.specs.OnFiles.{asked_of, plain_check}
use Rattle.szg_answers.proofs.Outcomes.{has_run_none}
use Rattle.szg_answers.proofs.on_files.run_words.Goals as goal

pub returns-in-Some-clause-ending : goal.returns-in-Some-clause-ending
returns-in-Some-clause-ending g c = (
  plain_check (map (λ path. path.now) c.in-Some.paths.now),
  inl (map (λ path. path.now) c.in-Some.paths.now, sym c.in-Some.ensures, refl),
  refl,
  checked_so _ _ _ c.check_files.result (λ report found. ((plain_options, (None, None, refl, refl, refl), found), refl)) c.check_files.ensures.found c.check_files.ensures.device,
)

pub returns-in-Ok-Check-clause-ending : goal.returns-in-Ok-Check-clause-ending
returns-in-Ok-Check-clause-ending g c =
    check_ends_well g.P.Finder.finds g.P.Finder.refuses g.S.FileSystem.content g.S.FileSystem.failures g.S.File.Input g.R.Input g.W.Output (map (λ word. word.now) c.args.words.now)
    c.args.system.now c.run_check.new.system c.args.reader.now c.args.reader.now c.args.writer.now c.run_check.new.writer c.run_check.result
    (asked_of c.in-Ok-Check.job)
    (inr (c.in-Ok-Check.job, rw (c.in-Ok-Check.field-0-is) at c.in-Ok-Check.ensures.queried, refl))
    refl
    c.run_check.ensures

pub returns-in-Ok-Run-clause-ending : goal.returns-in-Ok-Run-clause-ending
returns-in-Ok-Run-clause-ending g c =
    let task = c.in-Ok-Run.task in let source = c.in-Ok-Run.source in let target = c.in-Ok-Run.target in
    let queried = rw (c.in-Ok-Run.field-0-is) at c.in-Ok-Run.ensures.queried in
    ends_well g.P.Finder.finds g.P.Finder.refuses g.S.FileSystem.content g.S.FileSystem.failures g.S.File.Input g.R.Input g.W.Output (map (λ word. word.now) c.args.words.now)
    c.args.system.now c.run_task.new.system c.args.reader.now c.run_task.new.reader c.args.writer.now c.run_task.new.writer c.run_task.result
    (
    EndsTask-then c.run_task.result (λ published done. inl (task, source, target, queried, done)) (λ refused. inl (task, source, target, queried, refused)) (λ failed. listed_or (λ listing. (task, source, target, queried, listing)) (λ n. n) failed)
    (λ short. listed_or (λ listing. (task, source, target, queried, listing)) (λ n. inr (task, source, target, queried, n)) short) c.run_task.ensures
    )

pub returns-in-Ok-LookUp-clause-ending : goal.returns-in-Ok-LookUp-clause-ending
returns-in-Ok-LookUp-clause-ending g c =
    let request = c.in-Ok-LookUp.request in let source = c.in-Ok-LookUp.source in
    let queried = rw (c.in-Ok-LookUp.field-0-is) at c.in-Ok-LookUp.ensures.queried in
    ends_well g.P.Finder.finds g.P.Finder.refuses g.S.FileSystem.content g.S.FileSystem.failures g.S.File.Input g.R.Input g.W.Output (map (λ word. word.now) c.args.words.now)
    c.args.system.now c.run_look_up.new.system c.args.reader.now c.args.reader.now c.args.writer.now c.run_look_up.new.writer c.run_look_up.result
    (
    EndsTask-then c.run_look_up.result (λ published done. inr (request, source, queried, done.0, refl, done.1)) (λ refused. inr (request, source, queried, refl, refused)) (λ failed. inr failed)
    (λ stays. inr (inl stays)) c.run_look_up.ensures
    )

pub returns-in-Err-clause-ending : goal.returns-in-Err-clause-ending
returns-in-Err-clause-ending g c =
    let none = c.in-Err.ensures.none in let stated = c.words_outcome.ensures in (
      refl,
      has_run_none g.P.Finder.finds g.P.Finder.refuses g.R.Input g.W.Output (map (λ word. word.now) c.args.words.now) c.words_outcome.result c.args.reader.now c.args.writer.now stated.done stated.refused stated.words stated.device none,
    )
