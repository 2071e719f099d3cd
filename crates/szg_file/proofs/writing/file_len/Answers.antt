use Rattle.std.proofs.Common.{ap, arith}
use Rattle.szg_file.specs.FileOf.{sections}
use Rattle.szg_file.specs.Tally.{end_of}
use Rattle.szg_file.proofs.Writers.FileLengths.{file_length}
use Rattle.szg_file.proofs.writing.file_len.Goals as goal

pub returns : goal.returns
returns c =
    let t = c.args.table.now in
    let counted = ap (λ t. end_of 0 (sections t)) c.fields.ensures in
    omega (arith, c.bounded.ensures.short, file_length t.contents t.filled c.bounded.ensures.accepted, counted, c.of.ensures.place, c.of.type_inv)
