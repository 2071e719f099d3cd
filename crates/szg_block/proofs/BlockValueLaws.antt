-- The value that a block's words spell at an index.
use Rattle.std.proofs.Common.{ℕ, ◌≡◌, ◌+◌, ◌-◌, ◌<◌, ◌≤◌, List, Option, None, Some, length, ap, sym, ◌∙◌, arith}
use Rattle.std.specs.Prelude.{IfSome, IsSomeAnd}
use Rattle.std.specs.List.{slice_get, slice_index, sum_by}
use Rattle.szg_code.specs.Bits.{bits}
use Rattle.szg_block.specs.Layout.{Layout}
use Rattle.szg_block.specs.Block.{start, needed, block_values}
use Rattle.szg_block.specs.Kept.{CanLocate}
use Rattle.szg_block.specs.Sound.{HasTotal}
use Rattle.szg_block.specs.Spelled.{values_spelled}
use Rattle.szg_block.specs.Steps.{block_location}
use Rattle.szg_block.proofs.KeptLayouts.{value_before_end}
use Rattle.szg_block.proofs.Values.{location_of-holder, start-le-total}
use Rattle.szg_block.proofs.Spelling.{block_values-spelled}

module _ (layout : Layout) (block : List ℕ) (at : ℕ) where
  pub spelled_at : (value item : ℕ) → item ≡ at → slice_get (values_spelled layout.code layout.entries (bits block)) item ≡ Some value
      → Some value ≡ slice_get (block_values layout block) at
  spelled_at value item e h =
      sym (ap (λ n. slice_get (block_values layout block) n) (sym e) ∙ ap (λ u. slice_get u item) (block_values-spelled layout block) ∙ h)

-- where value i is, if the lengths sum to all values: an index among the values that its block needs
pub record IsHeldAt (layout : Layout) (size i block item : ℕ) : Type 0 where
  pub within : item ≤ i
  pub before : i - item ≡ start layout.lengths block
  pub inside : item < needed layout.lengths size block

pub held_in : (layout : Layout) (size i block item : ℕ) → HasTotal layout size → i < size → block ≡ (block_location layout i).list → item ≡ (block_location layout i).item → IsHeldAt layout size i block item
unfolding needed block_location
held_in layout size i block item total below at_block at_item =
    let whole : i < sum_by (λ n. n + 1) layout.lengths = omega (arith, value_before_end layout size total i below, start-le-total layout.lengths (length layout.lengths)) in
    let h = location_of-holder layout.lengths i whole in
    let s = ap (λ k. start layout.lengths k) at_block in
    let l = ap (λ k. slice_index layout.lengths k) at_block in
    record {
      within = omega (arith, h.is_at, at_item);
      before = omega (arith, h.is_at, at_item, s);
      inside = omega (arith, h.is_at, at_item, s, l, h.inside, below);
    }

pub held_at : (o : Option Layout) (size i block item : ℕ) → IfSome o (λ layout. CanLocate layout size) → i < size →
    IsSomeAnd o (λ layout. block ≡ (block_location layout i).list) → IsSomeAnd o (λ layout. item ≡ (block_location layout i).item) → IsSomeAnd o (λ layout. IsHeldAt layout size i block item)
held_at None size i block item can below at_block at_item = absurd at_block
held_at (Some layout) size i block item can below at_block at_item = held_in layout size i block item can.total below at_block at_item

module _ (size i block item : ℕ) where
  pub held_within : (o : Option Layout) → IsSomeAnd o (λ layout. IsHeldAt layout size i block item) → item ≤ i
  held_within None h = absurd h
  held_within (Some layout) h = h.within

  pub held_before : (o : Option Layout) → IsSomeAnd o (λ layout. IsHeldAt layout size i block item) → IsSomeAnd o (λ layout. i - item ≡ start layout.lengths block)
  held_before None h = absurd h
  held_before (Some layout) h = h.before
