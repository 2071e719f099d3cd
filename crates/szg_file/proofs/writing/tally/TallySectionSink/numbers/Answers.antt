use Rattle.std.proofs.Common.{arith}
use Rattle.szg_file.proofs.Writers.FileLengths.{pairs-length}
use Rattle.szg_file.proofs.Writers.TallyLaws.{counts_field}
use Rattle.szg_file.proofs.writing.tally.TallySectionSink.numbers.Goals as goal

pub returns : goal.returns
returns g c = counts_field _ _ (pairs-length c.args.list.now) (omega (arith, c.field.ensures.place)) c.field.ensures.fill
