use Rattle.std.proofs.Common.{◌≡◌, ℕ, ◌*◌, ◌≤◌, List, Some, length, drop, take, ap, sym, ◌∙◌, arith}
use Rattle.std.proofs.lemmas.List.{length-drop}
use Rattle.byteorder.specs.Endian.{little_number}
use Rattle.szg_file.specs.Contents.{number_of}
use Rattle.szg_mapped.proofs.InPlaceLaws.{row_at, row_past}
use Rattle.szg_file.proofs.Readers.ItemsRead.{little-number_of}
use Rattle.szg_mapped.proofs.in_place.IndexBytesBlockIndex.length.Goals as goal

pub returns-in_err-row-clause-length : goal.returns-in_err-row-clause-length
returns-in_err-row-clause-length c =
    rw c.from_residual.ensures (sym (row_past number_of 2 _ c.args.n c.args.self.now.lengths.now c.in_err-row.ensures.none))

pub returns-clause-length : goal.returns-clause-length
returns-clause-length c =
    let bytes = c.args.self.now.lengths.now in
    let xs : List ℕ = drop (2 * c.args.n) bytes in
    let there : 2 ≤ length xs = omega (arith, length-drop (2 * c.args.n) bytes, c.in_ok-row.ensures.there) in
    let number : c.read_u16.result ≡ number_of (take 2 xs) = c.read_u16.ensures ∙ ap (little_number 2) c.in_ok-row.ensures.row ∙ little-number_of 2 xs there in
    ap (λ (n : ℕ). Some n) number ∙ sym (row_at number_of 2 _ c.args.n bytes c.in_ok-row.ensures.there)
