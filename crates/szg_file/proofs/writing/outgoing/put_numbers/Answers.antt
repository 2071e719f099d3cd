use Rattle.std.proofs.Common.{[], ◌∷◌, rules}
use Rattle.szg_file.specs.Contents.{bytes_of}
use Rattle.szg_file.specs.FileOf.{written}
use Rattle.szg_file.proofs.Writers.WritingLaws.{writes_same, Same-items}
use Rattle.szg_file.proofs.writing.outgoing.put_numbers.Goals as goal

pub returns : goal.returns
returns g c =
    writes_same (Same-items (bytes_of 2) c.args.list.now)
    (c.write_each.ensures (λ number. written (bytes_of 2 number) ∷ []) (λ item output left outgoing rest result said. search rules))
