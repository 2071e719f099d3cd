use Rattle.szg_build.proofs.Readers.HeldLaws.{split_held}
use Rattle.szg_build.proofs.reading.incoming.Incoming.split_line.Goals as goal

pub returns-clause-held : goal.returns-clause-held
returns-clause-held c = split_held c.args.self.now.bytes c.args.self.now.from c.args.self.now.to c.args.size c.requires.there
