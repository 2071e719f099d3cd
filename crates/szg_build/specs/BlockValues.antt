-- The values of a subtable in memory, a block at a time.
use Rattle.std.specs.Prelude.{◌≡◌, ℕ, ◌-◌, ◌*◌, ◌≤◌, List, [], Option, Some, None, IfSome}
use Rattle.std.specs.List.{flat_map, range_with_len}
use Rattle.szg_block.specs.Block.{start}
use Rattle.szg_block.specs.Expansion.{needed_values}
use Rattle.szg_block.specs.Layout.{Layout}
use Rattle.szg_block.specs.Subtable.{layout_of, packed_of, IsShaped, IsSoundOver}
use Rattle.szg_block.specs.declared.Sub.{Sub}

-- what is left to decode of a subtable: the values of its remaining blocks, and the number of these blocks
pub record Left : Type 0 where
  pub values : List ℕ
  pub blocks : ℕ

-- the needed values of the blocks from block `next` on
unfoldable pub values_on : Layout → List ℕ → ℕ → ℕ → List ℕ
values_on layout packed size next = flat_map (needed_values layout packed size) (range_with_len next (layout.blocks - next))

abbrev pub left_with : Option Layout → List ℕ → ℕ → ℕ → Left
left_with None packed size next = record { values = []; blocks = 0 }
left_with (Some layout) packed size next = record { values = values_on layout packed size next; blocks = layout.blocks - next }

-- the blocks from block `next` on; a constant subtable has none
abbrev pub left_of : Sub → ℕ → ℕ → Left
left_of sub size next = left_with (layout_of sub) (packed_of sub) size next

abbrev pub count_with : Option Layout → ℕ
count_with None = 0
count_with (Some layout) = layout.blocks

-- the number of blocks
abbrev pub blocks_of : Sub → ℕ
blocks_of sub = count_with (layout_of sub)

-- the subtable is sound, and `before` values come before block `next`
pub record IsAtBlock (sub : Sub) (size next before : ℕ) : Type 0 where
  pub shaped : IsShaped sub size
  pub sound : IsSoundOver sub (packed_of sub) size
  pub before_is : IfSome (layout_of sub) (λ layout. before ≡ start layout.lengths next)
  pub few : before ≤ next * 65536
