use Rattle.std.proofs.Common.{◌≡◌, ◌+◌, ◌-◌, ◌*◌, ◌/◌, ◌≤◌, ◌++◌, length, map, List, ℕ, arith, rules, ap, ◌∙◌}
use Rattle.szg_file.specs.Contents.{items}
use Rattle.szg_block.specs.Layout.{SparseEntry}
use Rattle.szg_file.specs.File.{entry_of_bytes}
use Rattle.szg_file.specs.Held.{sparse_of}
use Rattle.szg_file.proofs.Readers.RowsRead.{rows_none, rows_on}
use Rattle.szg_file.proofs.reading.taking.take_sparse.Goals as goal

pub chunks-preserved : goal.chunks-preserved
chunks-preserved g c =
    let first = c.chunks.invariant in
    let size = c.min-size.result in
    let bytes = c.in_ok-rows.rows in
    let before : List SparseEntry = map sparse_of c.chunks.list.items in
    let most : size ≤ c.chunks.left = search rules in
    let next : c.args.count - (c.chunks.left - size) ≡ (c.args.count - c.chunks.left) + size = omega (arith, first.0, most) in
    let sum : 6 * (c.args.count - c.chunks.left) + 6 * size ≡ 6 * (c.args.count - (c.chunks.left - size)) = omega (arith, next) in
    let half : length bytes.items / 6 ≡ size = omega (arith, c.in_ok-rows.ensures.count) in
    let half_here : length c.as_slice.result.now / 6 ≡ size = ap (λ (z : List ℕ). length z / 6) c.as_slice.ensures.value ∙ half in
    let grown = c.in_ok-append_sparse.ensures.items
    ∙ ap (λ (z : List ℕ). before ++ map entry_of_bytes (items 6 (length z / 6) z)) c.as_slice.ensures.value
    ∙ ap (λ (n : ℕ). before ++ map entry_of_bytes (items 6 n bytes.items)) half in (
      omega (arith, first.0),
      rows_on entry_of_bytes 6 (c.args.count - c.chunks.left) size (c.args.count - (c.chunks.left - size)) before (map sparse_of c.append_sparse.new.list.items) (λ list. list.items) bytes
          next sum first.1 c.in_ok-rows.ensures.field c.in_ok-rows.ensures.count grown c.in_ok-append_sparse.ensures.place c.in_ok-append_sparse.ensures.fill,
      omega (arith, c.in_ok-append_sparse.ensures.longer, half_here, first.2, next),
      omega (arith, c.in_ok-append_sparse.ensures.place, c.in_ok-rows.ensures.place, first.3, sum),
      omega (arith, c.in_ok-append_sparse.ensures.growth, half_here, c.in_ok-rows.ensures.growth, first.4, next),
    )

pub chunks-init : goal.chunks-init
chunks-init g c = (
  omega arith,
  rows_none entry_of_bytes 6 (c.args.count - c.args.count) (map sparse_of c.new-list.result.items) (omega arith) (ap (map sparse_of) c.new-list.ensures.items),
  omega (arith, ap length c.new-list.ensures.items),
  omega arith,
  omega arith,
)
