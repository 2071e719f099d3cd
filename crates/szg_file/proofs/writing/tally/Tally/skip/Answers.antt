use Rattle.std.proofs.Common.{arith}
use Rattle.szg_file.proofs.Writers.TallyLaws.{counts_spare}
use Rattle.szg_file.proofs.writing.tally.Tally.skip.Goals as goal

pub returns : goal.returns
returns c = counts_spare c.args.count (omega (arith, c.field.ensures.place)) (omega (arith, c.field.ensures.fill))
