use Rattle.std.proofs.Common.{◌≡◌, is_some, refl}
use Rattle.szg_answers.specs.OnFiles.{IsGiven, asked_of}
use Rattle.szg_answers.proofs.Endings.{asked_ending}
use Rattle.szg_answers.proofs.on_files.run_check.Goals as goal

-- the options are those that are asked for, with the sums and the records that were read
pub returns : goal.returns
returns g c =
    let job = c.args.job in
    let sums = c.given.result in
    let log = c.given-2.result in
    let lists : IsGiven job.lists.items sums = rw (c.deref-3.ensures.value) at c.given.ensures in
    let logs : IsGiven job.logs.items log = rw (c.deref-4.ensures.value) at c.given-2.ensures in
    let ending = rw (c.as_slice-paths.ensures.value, c.is_some.ensures) at c.check_by.ensures in
    asked_ending g.S.FileSystem.content g.S.FileSystem.failures g.S.File.Input g.W.Output c.args.system.now c.check_by.new.system c.args.writer.now c.check_by.new.writer _ _
    (asked_of job) ((asked_of job).options sums log) (sums, log, lists, logs, refl) c.check_by.result ending
