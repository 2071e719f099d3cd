-- Subtables of which only those block lengths are kept that the values need.
use Rattle.std.specs.Prelude.{ℕ, Bool, true, false, ◌≡◌, suc, ◌+◌, ◌-◌, ◌<◌, ◌≤◌, ◌⊎◌, List, [], ◌∷◌, IfSome, length, nat_lt, slice_get, if◌then◌else◌}
use Rattle.szg_block.specs.Block.{start}
use Rattle.szg_block.specs.Layout.{Layout}
use Rattle.szg_block.specs.Sound.{entry_count, middle_of_span, HasTotal}
use Rattle.szg_block.specs.Subtable.{layout_of}
use Rattle.szg_block.specs.declared.Sub.{Sub}

-- the lengths of the blocks that begin below `size`
unfoldable pub kept_lengths : ℕ → List ℕ → List ℕ
kept_lengths size [] = []
kept_lengths size (n ∷ lengths) = if nat_lt 0 size then (n ∷ kept_lengths (size - (n + 1)) lengths) else []

-- all lengths, or those of the blocks that begin below `size`
abbrev pub kept_if : Bool → ℕ → List ℕ → List ℕ
kept_if true size lengths = lengths
kept_if false size lengths = kept_lengths size lengths

-- the layout with these block lengths
abbrev pub with_lengths : List ℕ → Layout → Layout
with_lengths lengths layout = record {
  block_bits = layout.block_bits;
  span_bits = layout.span_bits;
  extra = layout.extra;
  blocks = layout.blocks;
  code = layout.code;
  entries = layout.entries;
  sparse = layout.sparse;
  lengths = lengths;
}

-- the layout with the lengths of the blocks that begin below `size`
abbrev pub kept_layout : ℕ → Layout → Layout
kept_layout size layout = with_lengths (kept_lengths size layout.lengths) layout

-- entry j, if it exists, leads to the middle of span j and its block is within the lengths, or it is the last and its block
-- is past the lengths
abbrev pub HasKeptEntry : Layout → ℕ → Type 0
HasKeptEntry layout j = IfSome (slice_get layout.sparse j) (λ entry.
    ((entry.block ≤ length layout.lengths) × (start layout.lengths entry.block + entry.offset ≡ middle_of_span layout.span_bits j))
    ⊎ ((length layout.lengths < entry.block) × (suc j ≡ length layout.sparse)))

-- the sparse index and the lengths suffice to locate each value below `size`: each entry leads to the middle of its span,
-- but the last may lead past the lengths
pub record CanLocate (layout : Layout) (size : ℕ) : Type 0 where
  pub span_bits : layout.span_bits ≤ 31
  pub sparse : length layout.sparse ≡ entry_count layout.span_bits size
  pub total : HasTotal layout size
  pub entries : (j : ℕ) → HasKeptEntry layout j

-- the same for a subtable; a constant one has no index
abbrev pub IsLocatable : Sub → ℕ → Type 0
IsLocatable sub size = IfSome (layout_of sub) (λ layout. CanLocate layout size)

-- of the lengths `whole` the layout has all, or those of the blocks that begin below `size`; `before_last` values come before
-- the block of the last sparse entry
pub record IsKeptOf (all : Bool) (layout : Layout) (size before_last : ℕ) (whole : List ℕ) : Type 0 where
  pub lengths : layout.lengths ≡ kept_if all size whole
  pub many : length whole ≡ layout.blocks + layout.extra
  pub before : (j : ℕ) → suc j ≡ length layout.sparse → IfSome (slice_get layout.sparse j) (λ entry. before_last ≡ start whole entry.block)
