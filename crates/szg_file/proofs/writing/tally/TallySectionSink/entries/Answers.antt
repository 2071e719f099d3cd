use Rattle.std.proofs.Common.{map, arith}
use Rattle.std.proofs.lemmas.List.{length-map}
use Rattle.szg_file.specs.Held.{sparse_of}
use Rattle.szg_file.proofs.Writers.FileLengths.{sparse-length}
use Rattle.szg_file.proofs.Writers.TallyLaws.{counts_field}
use Rattle.szg_file.proofs.writing.tally.TallySectionSink.entries.Goals as goal

pub returns : goal.returns
returns g c =
    counts_field _ _ (sparse-length (map sparse_of c.args.sparse.now)) (omega (arith, c.field.ensures.place, length-map c.args.sparse.now sparse_of)) c.field.ensures.fill
