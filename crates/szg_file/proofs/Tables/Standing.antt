-- A sound subtable whose numbers fit, and whose code and dictionary are accepted, passes the checks of a file.
use Rattle.std.proofs.Common.{◌≡◌, ℕ, zero, suc, ◌+◌, ◌*◌, ◌^◌, ◌<◌, List, length, take, drop, sym, ap, subst, ◌∙◌, arith}
use Rattle.std.specs.Prelude.{IsTrue}
use Rattle.std.specs.List.{AllByRecursion}
use Rattle.std.proofs.lemmas.List.{drop-drop}
use Rattle.szg_code.specs.Canonical.{CanonicalCode}
use Rattle.szg_code.specs.Acceptance.{IsCode}
use Rattle.szg_code.proofs.Deciding.{IsCode-symbols}
use Rattle.szg_code.proofs.Finding.{first_rise_finds, first_overfull_finds}
use Rattle.szg_pairs.specs.Dictionary.{IsDictionary}
use Rattle.szg_pairs.proofs.Finding.{found_is_fault}
use Rattle.szg_block.specs.Layout.{Layout, SparseEntry}
use Rattle.szg_block.specs.Block.{block_at}
use Rattle.szg_block.specs.Sound.{IsShapedLayout, IsSoundLayout, HasBlocks}
use Rattle.szg_block.specs.FirstFault.{spells_needed}
use Rattle.szg_block.proofs.Deciding.{has_total-of, spells_needed-of}
use Rattle.szg_block.proofs.Finding.{first_bad_entry_finds}
use Rattle.szg_file.specs.Contents.{Head, layout_of, items}
use Rattle.szg_file.specs.File.{code_with}
use Rattle.szg_file.specs.Accepted.{AreNumbers, AreBytes, AllExpand, IsCodeSection, IsEntry, IsPacked, BlocksHold}

pub code_is_valid : (code : CanonicalCode) → IsCode code → AreNumbers 2 code.lowest → IsCodeSection code
code_is_valid code h fit =
    let head : CanonicalCode = code_with code.min_length code.max_length code.lowest 0 in
    let bare : IsCode head = IsCode-symbols head code.symbols h in
    record {
      shortest = let some = h.lengths.some_bits in omega (arith, some);
      shortest_first = h.lengths.in_order;
      longest = h.lengths.at_most;
      lengths = let each = h.lengths.each in let order = h.lengths.in_order in omega (arith, each, order);
      fit = fit;
      is_valid = ((first_rise_finds head).0.1 bare.ordered, (first_overfull_finds head).0.1 (bare.room, bare.least));
    }

pub dictionary_is_valid : (entries : List (List ℕ)) → IsDictionary entries → AllExpand entries
dictionary_is_valid entries h = let none = (found_is_fault entries).0.0 h in (none.0, (none.1, none.2))

-- `count` blocks from block `n` on
blocks_hold : (layout : Layout) (size n count : ℕ) (packed : List ℕ) →
    ((j : ℕ) → j < count → IsTrue (spells_needed layout size (n + j) (take (2 ^ layout.block_bits) (drop (j * 2 ^ layout.block_bits) packed)))) →
    BlocksHold layout size n (items (2 ^ layout.block_bits) count packed)
blocks_hold layout size n zero packed h = tt
blocks_hold layout size n (suc count) packed h =
    let k : ℕ = 2 ^ layout.block_bits in
    let none : 0 * k ≡ 0 = omega arith in
    let here : n + 0 ≡ n = omega arith in
    let first : IsTrue (spells_needed layout size n (take k packed)) =
    subst (λ (m : ℕ). IsTrue (spells_needed layout size n (take k (drop m packed)))) none
    (subst (λ (m : ℕ). IsTrue (spells_needed layout size m (take k (drop (0 * k) packed)))) here (h 0 (omega arith))) in (
      first,
      blocks_hold layout size (n + 1) count (drop k packed) (λ j lt.
          let far : drop (j * k) (drop k packed) ≡ drop (suc j * k) packed = drop-drop (j * k) k packed ∙ ap (λ (m : ℕ). drop m packed) (omega arith) in
          let next : n + suc j ≡ (n + 1) + j = omega arith in
          subst (λ (z : List ℕ). IsTrue (spells_needed layout size ((n + 1) + j) (take k z))) (sym far)
          (subst (λ (m : ℕ). IsTrue (spells_needed layout size m (take k (drop (suc j * k) packed)))) next (h (suc j) (omega (arith, lt))))),
    )

-- the numbers of a subtable fit their fields
pub record FitFields (head : Head) (sparse : List SparseEntry) (lengths packed : List ℕ) : Type 0 where
  pub flags : head.flags < 128
  pub extra : head.extra < 256
  pub blocks : head.blocks < 2 ^ 32
  pub lowest : AreNumbers 2 head.code.lowest
  pub symbols : length head.entries < 2 ^ 16
  pub entries : AllByRecursion (AreBytes 3) head.entries
  pub sparse_fit : AllByRecursion IsEntry sparse
  pub lengths_fit : AreNumbers 2 lengths
  pub packed_fit : AreNumbers 1 packed

pub sound_is_valid : (size : ℕ) (head : Head) (sparse : List SparseEntry) (lengths packed : List ℕ) → FitFields head sparse lengths packed → IsCode head.code → IsDictionary head.entries →
    IsShapedLayout (layout_of head sparse lengths) size → HasBlocks (layout_of head sparse lengths) packed → IsSoundLayout (layout_of head sparse lengths) packed size → IsPacked size head sparse lengths packed
unfolding block_at
sound_is_valid size head sparse lengths packed fit code dictionary shape blocks sound = record {
  head_is_valid = record {
    flags = fit.flags;
    block_bits = shape.block_bits;
    span_some = let some = shape.some_span in omega (arith, some);
    span_bits = shape.span_bits;
    extra = fit.extra;
    blocks = fit.blocks;
    code = code_is_valid head.code code fit.lowest;
    symbols = shape.symbols;
    symbols_fit = fit.symbols;
    entries = fit.entries;
    expand = dictionary_is_valid head.entries dictionary;
  };
  sparse_count = shape.sparse;
  sparse_fit = fit.sparse_fit;
  lengths_count = shape.lengths;
  lengths_fit = fit.lengths_fit;
  packed_bytes = (blocks, fit.packed_fit);
  index = (has_total-of (layout_of head sparse lengths) size sound.total, (first_bad_entry_finds (layout_of head sparse lengths)).0.1 sound.entries);
  blocks_hold = blocks_hold (layout_of head sparse lengths) size 0 head.blocks packed (λ j lt.
      let here : j ≡ 0 + j = omega arith in
      subst (λ (m : ℕ). IsTrue (spells_needed (layout_of head sparse lengths) size m (take (2 ^ head.block_bits) (drop (j * 2 ^ head.block_bits) packed)))) here
      (spells_needed-of (layout_of head sparse lengths) code size j (block_at head.block_bits packed j) (sound.words j lt)));
}
