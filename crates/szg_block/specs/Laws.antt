-- Laws of subtables, over the definitions alone.
use Rattle.std.specs.Prelude.{ℕ, false, ◌≡◌, ◌+◌, ◌/◌, ◌^◌, ◌<◌, ◌≤◌, ◌↔◌, IsTrue, List, Some, None, length, take, slice_get}
use Rattle.std.specs.List.{flat_map}
use Rattle.std.specs.Prelude.{slice_index}
use Rattle.szg_pairs.specs.Dictionary.{FailsFirst, IsDictionary}
use Rattle.szg_pairs.specs.Expansion.{expansion_of}
use Rattle.szg_pairs.specs.Laws.{FindsFirst}
use Rattle.szg_code.specs.Acceptance.{IsCode}
use Rattle.szg_code.specs.Bits.{bits}
use Rattle.szg_code.specs.Spelling.{symbols_spelled}
use Rattle.szg_block.specs.Layout.{Layout, SparseEntry}
use Rattle.szg_block.specs.Block.{HasValues, block_at, block_values, needed}
use Rattle.szg_block.specs.Expansion.{joined_values}
use Rattle.szg_block.specs.Kept.{kept_lengths, kept_layout, CanLocate}
use Rattle.szg_block.specs.FirstFault.{has_total, first_bad_entry, spells_needed}
use Rattle.szg_block.specs.Sound.{HasGoodEntry, HasTotal, IsShapedLayout, IsSoundLayout, SpellsNeeded}
use Rattle.szg_block.specs.Steps.{block_location, move_count, word_count, descent_count}
use Rattle.szg_block.specs.Subtable.{IsLayoutFault, steps_from}
use Rattle.szg_block.specs.declared.SubFault.TheVariants.{ShortTotal, SparseEntry as BadEntry, Word}

-- the bits of a block determine its first m values
abbrev pub OneListOfValues : Type 0
OneListOfValues = (layout : Layout) → IsCode layout.code → (block : List ℕ) (m : ℕ) (xs ys : List ℕ) → HasValues layout block m xs → HasValues layout block m ys → xs ≡ ys

-- if a block's own bits spell m values, they are the first m of block_values
abbrev pub BlockValuesAreSpelled : Type 0
BlockValuesAreSpelled = (layout : Layout) → IsCode layout.code → (block : List ℕ) (m : ℕ) (xs : List ℕ) → HasValues layout block m xs →
    (m ≤ length (block_values layout block)) × (xs ≡ take m (block_values layout block))

-- the blocks of a subtable that is sound for a size decode to exactly that number of values
abbrev pub SoundHasSize : Type 0
SoundHasSize = (layout : Layout) (packed : List ℕ) (size : ℕ) → IsCode layout.code → IsShapedLayout layout size → IsSoundLayout layout packed size → length (joined_values layout packed size) ≡ size

-- value i of a sound subtable depends on one block only
abbrev pub OneBlockDecides : Type 0
OneBlockDecides = (layout : Layout) (packed : List ℕ) (size : ℕ) → IsCode layout.code → IsShapedLayout layout size → IsSoundLayout layout packed size → (i : ℕ) → i < size →
    slice_get (joined_values layout packed size) i ≡ slice_get (block_values layout (block_at layout.block_bits packed (block_location layout i).list)) (block_location layout i).item

-- Value i and the steps to it depend only on the sparse entry of its span, the block lengths, the dictionary, the code
-- and the block that contains it: two subtables that agree in these have the same value and steps, whatever the other
-- blocks contain.
abbrev pub SameBlockSameValue : Type 0
SameBlockSameValue = (one other : Layout) (packed other_packed : List ℕ) (size other_size : ℕ) →
    IsCode one.code → IsShapedLayout one size → IsSoundLayout one packed size → IsShapedLayout other other_size → IsSoundLayout other other_packed other_size →
    other.lengths ≡ one.lengths → other.entries ≡ one.entries → other.code ≡ one.code →
    (i : ℕ) → i < size → i < other_size →
    slice_get other.sparse (i / 2 ^ other.span_bits) ≡ slice_get one.sparse (i / 2 ^ one.span_bits) →
    block_at other.block_bits other_packed (block_location one i).list ≡ block_at one.block_bits packed (block_location one i).list →
    (slice_get (joined_values other other_packed other_size) i ≡ slice_get (joined_values one packed size) i)
    × (steps_from (Some other) other_packed i ≡ steps_from (Some one) packed i)

-- the number of moves to value i is at most the number of values of half a span plus the offset of its sparse entry
abbrev pub MovesAreBounded : Type 0
MovesAreBounded = (layout : Layout) (packed : List ℕ) (size : ℕ) → IsShapedLayout layout size → IsCode layout.code → IsSoundLayout layout packed size → (i : ℕ) → i < size →
    (entry : SparseEntry) → slice_get layout.sparse (i / 2 ^ layout.span_bits) ≡ Some entry → move_count layout i ≤ 2 ^ layout.span_bits / 2 + entry.offset

-- the number of moves to value i is at most the number of values of half a span if the entry's offset lies within its
-- block, or if the entry points past the last length
abbrev pub MovesAreFewer : Type 0
MovesAreFewer = (layout : Layout) (packed : List ℕ) (size : ℕ) → IsShapedLayout layout size → IsCode layout.code → IsSoundLayout layout packed size → (i : ℕ) → i < size →
    (entry : SparseEntry) → slice_get layout.sparse (i / 2 ^ layout.span_bits) ≡ Some entry →
    (entry.block < length layout.lengths → entry.offset < slice_index layout.lengths entry.block + 1) → move_count layout i ≤ 2 ^ layout.span_bits / 2

-- the number of words read for value p of a block is the least number of words that together have more than p values
abbrev pub WordsAreLeast : Type 0
WordsAreLeast = (layout : Layout) (block : List ℕ) (p : ℕ) → p < length (block_values layout block) →
    (p < length (flat_map (expansion_of layout.entries) (take (word_count layout block p) (symbols_spelled layout.code (bits block)))))
    × ((k : ℕ) → p < length (flat_map (expansion_of layout.entries) (take k (symbols_spelled layout.code (bits block)))) → word_count layout block p ≤ k)

-- at most p + 1 words are read for value p of a block, and at most 255 pairs are above the value in the tree of its
-- symbol
abbrev pub WordsAreBounded : Type 0
WordsAreBounded = (layout : Layout) → IsDictionary layout.entries → layout.code.symbols ≡ length layout.entries → (block : List ℕ) (p : ℕ) → p < length (block_values layout block) →
    (word_count layout block p ≤ p + 1) × (descent_count layout block p ≤ 255)

-- has_total decides whether the blocks, without the extra lengths, have at least `size` values
abbrev pub HasTotalDecides : Type 0
HasTotalDecides = (layout : Layout) (size : ℕ) → IsTrue (has_total layout size) ↔ HasTotal layout size

-- first_bad_entry finds the first entry that is not good
abbrev pub FirstBadEntryFinds : Type 0
FirstBadEntryFinds = (layout : Layout) → FindsFirst (HasGoodEntry layout) (first_bad_entry layout)

-- if the code is accepted, spells_needed decides whether the block's own bits spell the values that it needs
abbrev pub SpellsNeededDecides : Type 0
SpellsNeededDecides = (layout : Layout) → IsCode layout.code → (size j : ℕ) (block : List ℕ) → IsTrue (spells_needed layout size j block) ↔ SpellsNeeded layout size j block

-- block j, if it exists, passes spells_needed
abbrev pub PassesBlock : Layout → List ℕ → ℕ → ℕ → Type 0
PassesBlock layout packed size j = j < layout.blocks → IsTrue (spells_needed layout size j (block_at layout.block_bits packed j))

-- if the code is accepted, a subtable is sound exactly if it passes has_total, first_bad_entry and spells_needed;
-- otherwise the first of these that it fails determines the fault
abbrev pub FoundIsFault : Type 0
FoundIsFault = (layout : Layout) → IsCode layout.code → (packed : List ℕ) (size : ℕ) →
    (IsSoundLayout layout packed size ↔ (IsTrue (has_total layout size) × (first_bad_entry layout ≡ None) × ((j : ℕ) → PassesBlock layout packed size j)))
    × (IsLayoutFault layout packed size ShortTotal ↔ (has_total layout size ≡ false))
    × ((k : ℕ) → IsLayoutFault layout packed size (BadEntry k) ↔ (IsTrue (has_total layout size) × (first_bad_entry layout ≡ Some k)))
    × ((n : ℕ) → IsLayoutFault layout packed size (Word n) ↔ (IsTrue (has_total layout size) × (first_bad_entry layout ≡ None) × FailsFirst (PassesBlock layout packed size) n))

-- of the blocks that begin below a size there are no more than values, and with their lengths alone each block needs as many
-- values, and each value below the size is in the same block at the same index
abbrev pub KeptLengthsSuffice : Type 0
KeptLengthsSuffice = (layout : Layout) (size : ℕ) →
    (length (kept_lengths size layout.lengths) ≤ size)
    × ((j : ℕ) → needed (kept_lengths size layout.lengths) size j ≡ needed layout.lengths size j)
    × ((i : ℕ) → i < size → block_location (kept_layout size layout) i ≡ block_location layout i)

-- a sound subtable's values can be located with these lengths alone
abbrev pub SoundIsLocatable : Type 0
SoundIsLocatable = (layout : Layout) (size : ℕ) → IsShapedLayout layout size → HasTotal layout size → ((j : ℕ) → HasGoodEntry layout j) → CanLocate (kept_layout size layout) size
