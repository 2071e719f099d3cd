-- What a packed subtable is: its values, its pairs, its code and its sparse index.
use Rattle.std.specs.Prelude.{ℕ, ◌≡◌, ◌≤◌, List, length}
use Rattle.szg_block.specs.Layout.{Layout}
use Rattle.szg_block.specs.Expansion.{joined_values}
use Rattle.szg_block.specs.Sound.{IsShapedLayout, HasBlocks, IsSoundLayout}
use Rattle.szg_block.specs.Subtable.{layout_from}
use Rattle.szg_block.specs.declared.Sub.{Sub}
use Rattle.szg_block.specs.declared.Sub.TheVariants.{Constant, Pairs}
use Rattle.szg_subtable.specs.declared.building.Choice.{Choice}
use Rattle.szg_subtable.specs.declared.building.Choice.TheVariants.{Fixed, Small}
use Rattle.szg_subtable.specs.Pairing.{IsPaired}
use Rattle.szg_subtable.specs.SubtableRule.{IsTruncatedBinary, IsSpanIndex}

-- the numbers of a choice are in their ranges
abbrev pub IsInBounds : Choice → Type 0
IsInBounds (Fixed packing) = (5 ≤ packing.block_bits) × (packing.block_bits ≤ 10) × (1 ≤ packing.span_bits) × (packing.span_bits ≤ 16) × (packing.rounds ≤ 4000)
IsInBounds Small = Unit {0}

-- packed by the numbers of a choice; for a small subtable only the pairs are restricted
abbrev pub IsPackedBy : Choice → Layout → List ℕ → ℕ → Type 0
IsPackedBy (Fixed packing) layout packed size =
    (layout.block_bits ≡ packing.block_bits) × (layout.span_bits ≡ packing.span_bits) × IsPaired layout packed size packing.rounds
IsPackedBy Small layout packed size = (rounds : ℕ) × IsPaired layout packed size rounds

-- with fixed numbers the code is that of the builder's rule
abbrev pub IsCodedAs : Choice → Layout → Type 0
IsCodedAs (Fixed packing) layout = IsTruncatedBinary (length layout.entries) layout.code
IsCodedAs Small layout = Unit {0}

-- A layout and its blocks, packed from values as chosen: they are sound, they expand to the values, and they follow the
-- builder's rule.
pub record IsPackedLayout (values : List ℕ) (choice : Choice) (layout : Layout) (packed : List ℕ) : Type 0 where
  pub shaped : IsShapedLayout layout (length values)
  pub whole : HasBlocks layout packed
  pub sound : IsSoundLayout layout packed (length values)
  pub expands : joined_values layout packed (length values) ≡ values
  pub chosen : IsPackedBy choice layout packed (length values)
  pub code : IsCodedAs choice layout
  pub index : IsSpanIndex layout (length values)

-- a subtable with blocks, packed from values as chosen, with these flags
abbrev pub IsPackedSub : List ℕ → ℕ → Choice → Sub → Type 0
IsPackedSub values flags choice (Constant _ byte) = ⊥
IsPackedSub values flags choice (Pairs own_flags block_bits span_bits extra blocks code dict sparse lengths packed) =
    (own_flags ≡ flags) × IsPackedLayout values choice (layout_from block_bits span_bits extra blocks code dict sparse.items lengths.items) packed.items
