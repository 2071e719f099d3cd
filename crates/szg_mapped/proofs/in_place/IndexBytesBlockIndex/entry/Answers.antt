use Rattle.std.proofs.Common.{◌≡◌, ℕ, ◌*◌, ◌-◌, ◌≤◌, List, Some, length, drop, take, ap, sym, ◌∙◌, arith}
use Rattle.std.proofs.lemmas.List.{length-drop, take_rest}
use Rattle.byteorder.specs.Endian.{little_number}
use Rattle.szg_block.specs.Layout.{SparseEntry}
use Rattle.szg_file.specs.File.{entry_of_bytes}
use Rattle.szg_mapped.proofs.InPlaceLaws.{row_at, row_past}
use Rattle.szg_file.proofs.Readers.ItemsRead.{six_bytes}
use Rattle.szg_mapped.proofs.in_place.IndexBytesBlockIndex.entry.Goals as goal

pub returns-in_err-row : goal.returns-in_err-row
returns-in_err-row c =
    rw c.from_residual.ensures (sym (row_past entry_of_bytes 6 _ c.args.n c.args.self.now.sparse.now c.in_err-row.ensures.none))

pub returns : goal.returns
returns c =
    let bytes = c.args.self.now.sparse.now in
    let xs : List ℕ = drop (6 * c.args.n) bytes in
    let there : 6 ≤ length xs = omega (arith, length-drop (6 * c.args.n) bytes, c.in_ok-row.ensures.there) in
    let block : c.read_u32.result ≡ little_number 4 xs = c.read_u32.ensures ∙ ap (little_number 4) c.in_ok-row.ensures.row in
    let offset : c.read_u16.result ≡ little_number 2 (drop 4 xs) =
    c.read_u16.ensures ∙ ap (λ (z : List ℕ). little_number 2 (take (length z - 4) (drop 4 z))) c.in_ok-row.ensures.row ∙ ap (little_number 2) (take_rest xs 4) in
    ap (λ (e : SparseEntry). Some e) (six_bytes xs _ _ there block offset) ∙ sym (row_at entry_of_bytes 6 _ c.args.n bytes c.in_ok-row.ensures.there)
