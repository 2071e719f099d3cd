use Rattle.szg_file.proofs.Writers.TallyLaws.{counts_padding}
use Rattle.szg_file.proofs.writing.tally.TallySectionSink.padding.Goals as goal

pub returns : goal.returns
returns g c = counts_padding c.args.unit c.requires.whole c.skip.ensures
