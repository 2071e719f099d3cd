use Rattle.std.proofs.Common.{List, ℕ, [], ◌∷◌, ◌++◌}
use Rattle.szg_block.specs.Layout.{SparseEntry}
use Rattle.szg_file.specs.Contents.{bytes_of}
use Rattle.szg_file.specs.FileOf.{written}
use Rattle.szg_file.specs.Held.{sparse_of}
use Rattle.szg_file.proofs.Writers.WritingLaws.{writes_same, Same-mapped}
use Rattle.szg_file.proofs.writing.outgoing.put_sparse.Goals as goal

abbrev entry_bytes : SparseEntry → List ℕ
entry_bytes entry = bytes_of 4 entry.block ++ bytes_of 2 entry.offset

pub returns : goal.returns
returns g c =
    writes_same (Same-mapped entry_bytes sparse_of c.args.sparse.now)
    (c.write_each.ensures (λ entry. written (entry_bytes (sparse_of entry)) ∷ []) (λ item output left outgoing rest result said. said))
