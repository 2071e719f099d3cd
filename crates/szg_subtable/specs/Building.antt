-- What each step of the builder establishes for the next.
use Rattle.std.specs.Prelude.{ℕ, suc, ◌≡◌, ◌+◌, ◌-◌, ◌*◌, ◌/◌, ◌%◌, ◌^◌, ◌<◌, ◌≤◌, ◌==◌, Bool, false, List, [], ◌∷◌, ◌++◌, length, map, take, drop, nat_lt, if◌then◌else◌, Option, Some, None, slice_get, slice_index, slice_index_or}
use Rattle.std.specs.List.{AllByRecursion, concat, list_any}
use Rattle.szg_pairs.specs.Dictionary.{IsDictionary}
use Rattle.szg_pairs.specs.Expansion.{expansion_of}
use Rattle.szg_code.specs.Bits.{bits}
use Rattle.szg_code.specs.Canonical.{CanonicalCode, IsWord}
use Rattle.szg_code.specs.Acceptance.{IsCode}
use Rattle.szg_code.specs.Spelling.{Spells}
use Rattle.szg_code.specs.Laws.{Appended}
use Rattle.szg_block.specs.Layout.{Layout, SparseEntry}
use Rattle.szg_block.specs.Block.{start, block_at}
use Rattle.szg_block.specs.Sound.{entry_count, middle_of_span}
use Rattle.szg_block.specs.Subtable.{layout_from}
use Rattle.szg_block.specs.declared.Sub.{Sub}
use Rattle.szg_block.specs.declared.Sub.TheVariants.{Constant, Pairs}
use Rattle.szg_subtable.specs.SubtableRule.{IsTruncatedBinary}
use Rattle.szg_subtable.specs.Pairing.{pair_count, values_of, values_below, different_values, pairs_in, IsUsed, IsFinished}

-- ---- pairs

-- the three bytes of an entry, from its two numbers of twelve bits
abbrev pub entry_of : ℕ → ℕ → List ℕ
entry_of left right = (left % 256) ∷ (left / 256 + 16 * (right % 16)) ∷ (right / 16) ∷ []

-- the number of values of each symbol
pub record AreLens (entries : List (List ℕ)) (lens : List ℕ) : Type 0 where
  pub count : length lens ≡ length entries
  pub each : (s : ℕ) → s < length entries → slice_index lens s ≡ length (expansion_of entries s)

-- the values from an offset on begin with those of a symbol
pub record IsSymbolAt (entries : List (List ℕ)) (values : List ℕ) (symbol offset : ℕ) : Type 0 where
  pub inside : offset + length (expansion_of entries symbol) ≤ length values
  pub same : take (length (expansion_of entries symbol)) (drop offset values) ≡ expansion_of entries symbol

-- two symbols of the dictionary that together have at most 256 values, and occur next to each other
pub record IsCandidate (lens symbols : List ℕ) (left right : ℕ) : Type 0 where
  pub left_there : left < length lens
  pub right_there : right < length lens
  pub short : slice_index lens left + slice_index lens right ≤ 256
  pub some : 0 < pair_count left right symbols

-- for each value up to 4,095, whether the list has it
pub record AreMarks (values : List ℕ) (marks : List Bool) : Type 0 where
  pub count : length marks ≡ 4096
  pub each : (value : ℕ) → value < 4096 → slice_index_or marks value false ≡ list_any (λ v. v == value) values

-- the leaves of the values below a bound
abbrev pub leaves_below : ℕ → List ℕ → List (List ℕ)
leaves_below bound values = map (λ value. entry_of value 4095) (values_below bound values)

-- after `done` rounds: a dictionary with a leaf for each different value, and a list of symbols that expands to the
-- values
pub record IsRound (values : List ℕ) (done : ℕ) (entries : List (List ℕ)) (symbols : List ℕ) : Type 0 where
  pub dictionary : IsDictionary entries
  pub few : length entries ≤ 4095
  pub below : AllByRecursion (λ s. s < length entries) symbols
  pub same : values_of entries symbols ≡ values
  pub used : IsUsed entries symbols
  pub pairs : length (pairs_in entries) ≡ done
  pub leaves : length entries ≡ length (different_values values) + done

-- after the last round: no more pairs are to be made
pub record IsPairing (values : List ℕ) (rounds : ℕ) (entries : List (List ℕ)) (symbols : List ℕ) : Type 0 where
  pub done : ℕ
  pub round : IsRound values done entries symbols
  pub finished : IsFinished entries symbols rounds

-- ---- words

-- an accepted code of `count` symbols, each with a word
pub record IsChosen (count : ℕ) (code : CanonicalCode) : Type 0 where
  pub accepted : IsCode code
  pub symbols : code.symbols ≡ count
  pub longest : code.max_length ≤ 32
  pub words : (s : ℕ) → s < count → (word : List Bool) × IsWord code word s

-- ---- blocks

-- whole bytes, a multiple of four, and fewer than 32 bits that are not stored as bytes yet
pub record IsWaiting (bytes : List ℕ) (count waiting : ℕ) : Type 0 where
  pub few : count < 32
  pub small : waiting < 2 ^ count
  pub fours : length bytes ≡ 4 * (length bytes / 4)

-- The blocks from the j-th on are filled with these lists of symbols: the bits of each block begin with the words of
-- its list, and its length is the number of values of the list, less one.
pub data AreFilled (layout : Layout) (packed : List ℕ) : ℕ → List (List ℕ) → Type 0 where
  end : {j : ℕ} → j ≡ layout.blocks → AreFilled layout packed j []
  next : {j : ℕ} {symbols : List ℕ} {lists : List (List ℕ)} → j < layout.blocks → Spells layout.code (bits (block_at layout.block_bits packed j)) symbols →
      slice_index layout.lengths j + 1 ≡ length (values_of layout.entries symbols) → AreFilled layout packed (suc j) lists → AreFilled layout packed j (symbols ∷ lists)

-- the layout of a subtable that has no sparse index yet
abbrev pub blocks_layout : ℕ → CanonicalCode → List (List ℕ) → ℕ → List ℕ → Layout
blocks_layout block_bits code entries blocks lengths = record {
  block_bits = block_bits;
  span_bits = 1;
  extra = 0;
  blocks = blocks;
  code = code;
  entries = entries;
  sparse = [];
  lengths = lengths;
}

-- a block whose bits begin with these words; the bits after them are not restricted
pub record IsBlockOf (block_bits : ℕ) (words : List Bool) (block : List ℕ) : Type 0 where
  pub size : length block ≡ 2 ^ block_bits
  pub rest : List Bool
  pub joined : bits block ≡ words ++ rest

-- Symbols fill whole blocks and begin another one. `words` are the bits of the words in that other block, and `values`
-- is the number of values of their symbols. The whole blocks have at least four symbols a block on average.
pub record IsFilling (code : CanonicalCode) (entries : List (List ℕ)) (block_bits : ℕ) (symbols lengths packed : List ℕ) (words : List Bool) (values : ℕ) : Type 0 where
  pub lists : List (List ℕ)
  pub current : List ℕ
  pub joined : concat lists ++ current ≡ symbols
  pub filled : AreFilled (blocks_layout block_bits code entries (length lengths) lengths) packed 0 lists
  pub whole : length packed ≡ length lengths * 2 ^ block_bits
  pub written : Appended code current [] words
  pub stated : values ≡ length (values_of entries current)
  pub fits : length words ≤ 8 * 2 ^ block_bits
  pub most : values ≤ 65536
  pub short_words : length words ≤ 32 * length current
  pub short_symbols : values ≤ 256 * length current
  pub some : length current ≤ values
  pub many : 4 * length lengths ≤ length (concat lists)

-- The symbols, divided into lists, fill `blocks` blocks. Each block is whole, and the number of blocks fits 32 bits.
pub record IsCut (code : CanonicalCode) (entries : List (List ℕ)) (block_bits : ℕ) (symbols : List ℕ) (blocks : ℕ) (lengths packed : List ℕ) : Type 0 where
  pub lists : List (List ℕ)
  pub joined : concat lists ≡ symbols
  pub filled : AreFilled (blocks_layout block_bits code entries blocks lengths) packed 0 lists
  pub count : length lengths ≡ blocks
  pub few : blocks < 2 ^ 32
  pub whole : length packed ≡ blocks * 2 ^ block_bits

-- ---- the sparse index

-- the entry leads to the middle of span j: in the block that contains it, or past the last block
pub record IsEntryOf (lengths : List ℕ) (span_bits j : ℕ) (entry : SparseEntry) : Type 0 where
  pub block : entry.block ≤ length lengths
  pub place : start lengths entry.block + entry.offset ≡ middle_of_span span_bits j
  pub inside : middle_of_span span_bits j < start lengths (length lengths) → (entry.block < length lengths) × (middle_of_span span_bits j < start lengths (entry.block + 1))
  pub beyond : start lengths (length lengths) ≤ middle_of_span span_bits j → entry.block ≡ length lengths

-- each entry leads to the middle of its span
abbrev pub IsIndexOf : List ℕ → ℕ → List SparseEntry → Type 0
IsIndexOf lengths span_bits sparse = (j : ℕ) (entry : SparseEntry) → slice_get sparse j ≡ Some entry → IsEntryOf lengths span_bits j entry

-- the extra lengths that the last entry requires
abbrev pub extras_for : ℕ → Option SparseEntry → List ℕ
extras_for blocks None = []
extras_for blocks (Some entry) = if nat_lt entry.block blocks then [] else 65535 ∷ []

-- `after` are the lengths and then the extra ones that the last entry requires, `extra` of them
abbrev pub IsExtended : List SparseEntry → List ℕ → List ℕ → ℕ → Type 0
IsExtended sparse lengths after extra =
    (extra ≡ length (extras_for (length lengths) (slice_get sparse (length sparse - 1))))
    × (after ≡ lengths ++ extras_for (length lengths) (slice_get sparse (length sparse - 1)))

-- ---- a subtable

-- The layout and the blocks of a subtable, made from values by the steps above.
pub record IsMade (values : List ℕ) (block_bits span_bits rounds : ℕ) (layout : Layout) (packed : List ℕ) : Type 0 where
  pub symbols : List ℕ
  pub own : List ℕ
  pub pairing : IsPairing values rounds layout.entries symbols
  pub chosen : IsChosen (length layout.entries) layout.code
  pub cut : IsCut layout.code layout.entries block_bits symbols layout.blocks own packed
  pub index : IsIndexOf own span_bits layout.sparse
  pub index_count : length layout.sparse ≡ entry_count span_bits (length values)
  pub extended : IsExtended layout.sparse own layout.lengths layout.extra
  pub block_bits_kept : layout.block_bits ≡ block_bits
  pub span_bits_kept : layout.span_bits ≡ span_bits

abbrev pub IsMadeSub : List ℕ → ℕ → ℕ → ℕ → ℕ → Sub → Type 0
IsMadeSub values flags block_bits span_bits rounds (Constant _ byte) = ⊥
IsMadeSub values flags block_bits span_bits rounds (Pairs own_flags own_block_bits own_span_bits extra blocks code dict sparse lengths packed) =
    (own_flags ≡ flags) × IsMade values block_bits span_bits rounds (layout_from own_block_bits own_span_bits extra blocks code dict sparse.items lengths.items) packed.items

-- the code is the truncated binary code of the symbols
abbrev pub HasBinaryCode : Sub → Type 0
HasBinaryCode (Constant flags byte) = ⊥
HasBinaryCode (Pairs flags block_bits span_bits extra blocks code dict sparse lengths packed) = IsTruncatedBinary (length dict) code
