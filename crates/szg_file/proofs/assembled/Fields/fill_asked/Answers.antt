use Rattle.std.proofs.Common.{[], ap, arith}
use Rattle.szg_file.specs.Assembled.{fields_shown}
use Rattle.szg_file.specs.FileOf.{fill_asked, sections}
use Rattle.szg_file.specs.Tally.{fill_from}
use Rattle.szg_file.proofs.Writers.FileLengths.{queried-from}
use Rattle.szg_file.proofs.assembled.Fields.fill_asked.Goals as goal

pub returns : goal.returns
unfolding fill_asked
returns c =
    let t = (fields_shown c.args.self.now).contents in
    let counted = ap (λ t. fill_from 0 (sections t)) c.borrowed.ensures in
    omega (arith, c.bounded.ensures, counted, c.of.ensures.fill, c.of.type_inv, queried-from [] (sections t))
