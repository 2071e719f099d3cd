use Rattle.std.proofs.Common.{refl, arith}
use Rattle.szg_file.specs.FileOf.{sections}
use Rattle.szg_file.specs.Sections.{contents_in}
use Rattle.szg_file.proofs.Writers.TallyLaws.{counts_taken}
use Rattle.szg_file.proofs.writing.tally.Tally.of.Goals as goal

pub returns : goal.returns
returns c =
    let counted = counts_taken (sections (contents_in c.args.fields.now)) (record { place = 0; fill = 0 }) c.put_sections.new.sink tt tt c.put_sections.ensures in
    record { place = counted.place 0 refl; fill = let all = counted.fill 0 refl in omega (arith, all) }
