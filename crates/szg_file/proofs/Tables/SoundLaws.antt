-- The codes, dictionaries and subtables of an accepted table are accepted by the lower crates.
use Rattle.std.proofs.Common.{◌≡◌, ℕ, zero, suc, ◌+◌, ◌*◌, ◌^◌, ◌<◌, List, take, drop, sym, ap, subst, ◌∙◌, arith}
use Rattle.std.specs.Prelude.{IsTrue}
use Rattle.std.proofs.lemmas.List.{drop-drop}
use Rattle.szg_code.specs.Canonical.{CanonicalCode}
use Rattle.szg_code.specs.Acceptance as code_rules
use Rattle.szg_code.proofs.Deciding.{code_holds, IsCode-symbols}
use Rattle.szg_block.specs.Layout.{Layout, SparseEntry}
use Rattle.szg_block.specs.Block.{block_at}
use Rattle.szg_block.specs.Sound.{IsShapedLayout, IsSoundLayout}
use Rattle.szg_block.specs.FirstFault.{spells_needed}
use Rattle.szg_block.proofs.Deciding.{has_total-true, first_bad_entry-None, spells_needed-true}
use Rattle.szg_file.specs.Contents.{Head, layout_of, items}
use Rattle.szg_file.specs.File.{code_with}
use Rattle.szg_file.specs.Accepted.{IsCodeSection, IsPacked, BlocksHold}

pub accepted_code : (code : CanonicalCode) → IsCodeSection code → code_rules.IsCode code
accepted_code code h =
    IsCode-symbols code 0 (code_holds (code_with code.min_length code.max_length code.lowest 0)
    (record { some_bits = h.shortest; in_order = h.shortest_first; at_most = h.longest; each = let long = h.lengths in let order = h.shortest_first in omega (arith, long, order) })
    h.is_valid.0 h.is_valid.1)

pub accepted_shape : (size : ℕ) (head : Head) (sparse : List SparseEntry) (lengths packed : List ℕ) → IsPacked size head sparse lengths packed → IsShapedLayout (layout_of head sparse lengths) size
accepted_shape size head sparse lengths packed h = record {
  block_bits = h.head_is_valid.block_bits;
  some_span = h.head_is_valid.span_some;
  span_bits = h.head_is_valid.span_bits;
  symbols = h.head_is_valid.symbols;
  sparse = h.sparse_count;
  lengths = h.lengths_count;
}

-- block `j` of `count` joined blocks
held_block : (layout : Layout) (size n count : ℕ) (packed : List ℕ) → BlocksHold layout size n (items (2 ^ layout.block_bits) count packed) → (j : ℕ) → j < count →
    IsTrue (spells_needed layout size (n + j) (take (2 ^ layout.block_bits) (drop (j * 2 ^ layout.block_bits) packed)))
held_block layout size n zero packed h j lt = absurd (omega arith)
held_block layout size n (suc count) packed h zero lt =
    let k : ℕ = 2 ^ layout.block_bits in
    let none : 0 * k ≡ 0 = omega arith in
    let here : n + 0 ≡ n = omega arith in
    subst (λ (m : ℕ). IsTrue (spells_needed layout size m (take k (drop (0 * k) packed)))) (sym here)
    (subst (λ (m : ℕ). IsTrue (spells_needed layout size n (take k (drop m packed)))) (sym none) h.0)
held_block layout size n (suc count) packed h (suc j) lt =
    let k : ℕ = 2 ^ layout.block_bits in
    let r = held_block layout size (n + 1) count (drop k packed) h.1 j (omega arith) in
    let next : (n + 1) + j ≡ n + suc j = omega arith in
    let far : drop (j * k) (drop k packed) ≡ drop (suc j * k) packed = drop-drop (j * k) k packed ∙ ap (λ (m : ℕ). drop m packed) (omega arith) in
    subst (λ (m : ℕ). IsTrue (spells_needed layout size m (take k (drop (suc j * k) packed)))) next
    (subst (λ (z : List ℕ). IsTrue (spells_needed layout size ((n + 1) + j) (take k z))) far r)

pub accepted_subtable : (size : ℕ) (head : Head) (sparse : List SparseEntry) (lengths packed : List ℕ) → IsPacked size head sparse lengths packed →
    IsSoundLayout (layout_of head sparse lengths) packed size
unfolding block_at
accepted_subtable size head sparse lengths packed h = record {
  total = has_total-true (layout_of head sparse lengths) size h.index.0;
  entries = first_bad_entry-None (layout_of head sparse lengths) h.index.1;
  words = λ j there.
      let held = held_block (layout_of head sparse lengths) size 0 head.blocks packed h.blocks_hold j there in
      let here : 0 + j ≡ j = omega arith in
      spells_needed-true (layout_of head sparse lengths) size j (block_at head.block_bits packed j)
      (subst (λ (m : ℕ). IsTrue (spells_needed (layout_of head sparse lengths) size m (block_at head.block_bits packed j))) here held);
}
