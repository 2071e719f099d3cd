use Rattle.std.proofs.Common.{◌≡◌, arith, ◌-◌, ◌*◌, ◌≤◌, ◌++◌, ◌∷◌, [], length, take, drop, map, List, ℕ, rules, ap, refl, ◌∙◌, append_assoc}
use Rattle.std.proofs.lemmas.List.{length-drop, length-append, take_rest, map-append}
use Rattle.byteorder.specs.Endian.{little_number}
use Rattle.szg_block.specs.Layout.{SparseEntry}
use Rattle.szg_block.specs.declared.Entry.{Entry}
use Rattle.szg_file.specs.Contents.{items}
use Rattle.szg_file.specs.File.{entry_of_bytes}
use Rattle.szg_file.specs.Held.{sparse_of}
use Rattle.szg_file.proofs.Readers.ItemsRead.{mapped-more, six_bytes}
use Rattle.szg_file.proofs.reading.taking.append_sparse.Goals as goal

pub rows-preserved : goal.rows-preserved
rows-preserved c =
    let bytes = c.args.rows.now in
    let i = c.rows.i in
    let xs : List ℕ = drop (6 * i) bytes in
    let whole = take_rest bytes (6 * i) in
    let there : 6 ≤ length xs = search (rules, length-drop (6 * i) bytes) in
    let entry : Entry = record { block = c.read_u32-block.result; offset = c.read_u16-offset.result } in
    let block : c.read_u32-block.result ≡ little_number 4 xs = c.read_u32-block.ensures ∙ ap (little_number 4) whole in
    let offset : c.read_u16-offset.result ≡ little_number 2 (drop 4 xs) =
    c.read_u16-offset.ensures ∙ ap (λ (z : List ℕ). little_number 2 (take (length z - 4) (drop 4 z))) whole ∙ ap (little_number 2) (take_rest xs 4) in
    let first : List SparseEntry = map sparse_of c.grow.new.list.items in
    let before : List SparseEntry = map entry_of_bytes (items 6 i bytes) in (
      ap (map sparse_of) c.in_ok-push.ensures.items ∙ map-append sparse_of c.rows.list.items (entry ∷ [])
          ∙ ap (λ (z : List SparseEntry). z ++ sparse_of entry ∷ []) c.rows.invariant.0
          ∙ append_assoc first before (sparse_of entry ∷ [])
          ∙ ap (λ (z : List SparseEntry). first ++ z) (mapped-more entry_of_bytes 6 i bytes before (sparse_of entry) refl (six_bytes xs _ _ there block offset)),
      omega (arith, ap length c.in_ok-push.ensures.items, length-append c.rows.list.items (entry ∷ []), c.rows.invariant.1),
    )
