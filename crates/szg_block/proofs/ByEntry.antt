-- A look-up from the sparse index: the entry, the block that the entry leads to, and the steps.
use Rattle.std.proofs.Common.{ℕ, suc, ◌≡◌, refl, ◌+◌, ◌-◌, ◌*◌, ◌/◌, ◌%◌, ◌^◌, ◌<◌, ◌≤◌, List, None, Some, length, ap, sym, ◌∙◌, arith}
use Rattle.std.specs.Prelude.{IfNone, IfSome, Option}
use Rattle.std.specs.List.{slice_get, slice_index}
use Rattle.std.proofs.Math.Nat.{div-add-mod, div-mul-le_self, le-div_iff_mul-le}
use Rattle.std.proofs.lemmas.Nat.{pow_pos}
use Rattle.std.proofs.lemmas.Option.{get_or_from_slice_get, slice_get_within}
use Rattle.szg_code.specs.Acceptance.{IsCode}
use Rattle.szg_code.specs.Bits.{bits}
use Rattle.szg_block.specs.Layout.{Layout, SparseEntry}
use Rattle.szg_block.specs.Block.{start, block_at}
use Rattle.szg_block.specs.BlocksTrait.{packed_blocks}
use Rattle.szg_block.specs.Indexed.{entry_of, IsSoundIndex}
use Rattle.szg_block.specs.Parts.{IsGoodAt}
use Rattle.szg_block.specs.Sound.{entry_count, middle_of_span, HasGoodEntry, HasTotal, IsShapedLayout, IsSoundLayout}
use Rattle.szg_block.specs.Spelled.{word_at, pairs_above}
use Rattle.szg_block.specs.Steps.{block_location, entry_block, move_count}
use Rattle.szg_block.specs.Subtable.{layout_of, HasSoundIndex, IsShapedHead, IsSoundOver, steps_from}
use Rattle.szg_block.specs.declared.Entry.{Entry}
use Rattle.szg_block.specs.declared.Sub.{Sub}
use Rattle.szg_block.specs.declared.probing.Steps.{Steps}
use Rattle.szg_block.proofs.Reading.{IsValueAt, block_is, value_at}
use Rattle.szg_block.proofs.Values.{block_location-IsLocationOfValue, start-monotone}
use Rattle.szg_block.proofs.Walking.{none_past, one_block}
use Rattle.szg_block.proofs.WordAt.{word_count-at, descent_count-at}

-- the span of each value has an entry
pub span_there : (span_bits size i : ℕ) → i < size → i / 2 ^ span_bits < entry_count span_bits size
unfolding entry_count
span_there span_bits size i h =
    let w : ℕ = 2 ^ span_bits in
    let p : 0 < w = pow_pos span_bits in
    let d : i / w * w ≤ i = div-mul-le_self i w in
    let e : suc (i / w) * w ≡ i / w * w + w = omega arith in
    let m : suc (i / w) * w ≤ size + w - 1 = omega arith in
    (le-div_iff_mul-le p).1 m

-- ---- clauses of one result

pub some_map : {X : Type 0} (o : Option X) (P Q : X → Type 0) → IfSome o P → ((x : X) → P x → Q x) → IfSome o Q
some_map None P Q h f = tt
some_map (Some x) P Q h f = f x h

pub none_map : {X : Type 0} (o : Option X) {P Q : Type 0} → IfNone o P → (P → Q) → IfNone o Q
none_map None h f = f h
none_map (Some x) h f = tt

-- a good entry leads from the start of its block to value i: both values counted from the start of the value's span
module _ (lengths : List ℕ) (span_bits i : ℕ) (entry : Entry) (good : IsGoodAt lengths span_bits (i / 2 ^ span_bits) entry) where
  middle_at : start lengths entry.block + entry.offset + i % 2 ^ span_bits ≡ i + 2 ^ span_bits / 2
  unfolding middle_of_span
  middle_at =
      let d : 2 ^ span_bits * (i / 2 ^ span_bits) + i % 2 ^ span_bits ≡ i = div-add-mod i (2 ^ span_bits) in
      omega (arith, d, good.1)

  pub led_on : 2 ^ span_bits / 2 ≤ i % 2 ^ span_bits + entry.offset → start lengths entry.block + (i % 2 ^ span_bits + entry.offset - 2 ^ span_bits / 2) ≡ i
  led_on h = omega (arith, middle_at, h)

  pub led_back : i % 2 ^ span_bits + entry.offset < 2 ^ span_bits / 2 → start lengths entry.block ≡ i + (2 ^ span_bits / 2 - (i % 2 ^ span_bits + entry.offset))
  led_back h = omega (arith, middle_at, h)

-- the result of a walk from the sparse entry to value i: its block, its index there, and the moves to that block
pub record IsFoundAt (layout : Layout) (i j p m : ℕ) : Type 0 where
  pub there : j < layout.blocks
  pub block : j ≡ (block_location layout i).list
  pub item : p ≡ (block_location layout i).item
  pub moves : m ≡ move_count layout i

module _ (layout : Layout) (size : ℕ) (shaped : IsShapedLayout layout size) (total : HasTotal layout size) (entries : (j : ℕ) → HasGoodEntry layout j) (i : ℕ) (below : i < size) where
  entry_there : i / 2 ^ layout.span_bits < length layout.sparse
  entry_there =
      let s : i / 2 ^ layout.span_bits < entry_count layout.span_bits size = span_there layout.span_bits size i below in
      omega (arith, s, shaped.sparse)

  value_below : i < start layout.lengths (length layout.lengths)
  value_below =
      let n : length layout.lengths ≡ layout.blocks + layout.extra = shaped.lengths in
      let m : start layout.lengths layout.blocks ≤ start layout.lengths (length layout.lengths) = start-monotone layout.lengths layout.blocks (length layout.lengths) (omega arith) (omega arith) in
      omega (arith, total, m)

  module _ (entry : Entry) (is : slice_get layout.sparse (i / 2 ^ layout.span_bits) ≡ Some (entry_of entry)) where
    entry_good : IsGoodAt layout.lengths layout.span_bits (i / 2 ^ layout.span_bits) entry
    entry_good =
        let good = rw is at (entries (i / 2 ^ layout.span_bits)) in
        (omega (arith, good.there, shaped.lengths), good.location)

    entry_block_is : entry_block layout i ≡ entry.block
    unfolding entry_block
    entry_block_is = rw is refl

    found_at : (j p n : ℕ) → slice_get layout.lengths j ≡ Some n → p ≤ n → i ≡ start layout.lengths j + p
        → IsFoundAt layout i j p ((entry.block - j) + (j - entry.block))
    unfolding move_count
    found_at j p n some inside location =
        let h = block_location-IsLocationOfValue layout size shaped total i below in
        let there : j < length layout.lengths = slice_get_within layout.lengths j n some in
        let is_length : slice_index layout.lengths j ≡ n = get_or_from_slice_get layout.lengths j n 0 some in
        let b : (block_location layout i).list ≡ j =
        one_block layout.lengths _ j _ p (omega (arith, h.block, shaped.lengths)) there (sym h.is_at ∙ location) h.item (omega (arith, is_length, inside)) in
        let s = ap (λ k. start layout.lengths k) b in
        record {
          there = omega (arith, h.block, b);
          block = sym b;
          item = omega (arith, h.is_at, location, s);
          moves = rw (entry_block_is, b) refl;
        }

-- the same for the parts that a look-up reads
module _ (sparse : List SparseEntry) (lengths : List ℕ) (blocks span_bits : ℕ) (layout : Layout) (size i : ℕ) (below : i < size) where
  pub entry_somewhere : IsSoundIndex sparse lengths blocks span_bits layout size → slice_get sparse (i / 2 ^ span_bits) ≡ None → ⊥
  entry_somewhere s none =
      let t = entry_there layout size s.shaped s.total s.entries i below in
      let e : slice_get layout.sparse (i / 2 ^ layout.span_bits) ≡ None = rw (s.sparse_is, s.span_bits_are) none in
      let past : length layout.sparse ≤ i / 2 ^ layout.span_bits = none_past layout.sparse (i / 2 ^ layout.span_bits) e in
      omega (arith, t, past)

  module _ (entry : Entry) (is : Some (entry_of entry) ≡ slice_get sparse (i / 2 ^ span_bits)) (s : IsSoundIndex sparse lengths blocks span_bits layout size) where
    is_entry : slice_get layout.sparse (i / 2 ^ layout.span_bits) ≡ Some (entry_of entry)
    is_entry = rw (s.sparse_is, s.span_bits_are) (sym is)

    pub good_entry : IsGoodAt lengths span_bits (i / 2 ^ span_bits) entry
    good_entry =
        let g = entry_good layout size s.shaped s.total s.entries i below entry is_entry in
        rw (s.lengths_are, s.span_bits_are) at g

    pub found_somewhere : start lengths (length lengths) ≤ i → ⊥
    found_somewhere past =
        let b = value_below layout size s.shaped s.total s.entries i below in
        let b' : i < start lengths (length lengths) = rw s.lengths_are at b in
        omega (arith, b', past)

    pub found_in : (j p n : ℕ) → Some n ≡ slice_get lengths j → p ≤ n → i ≡ start lengths j + p → IsFoundAt layout i j p ((entry.block - j) + (j - entry.block))
    found_in j p n some inside location =
        found_at layout size s.shaped s.total s.entries i below entry is_entry j p n (rw s.lengths_are (sym some)) inside (rw s.lengths_are location)

pub sound_index : (sub : Sub) (layout : Layout) (size : ℕ) → layout_of sub ≡ Some layout → IsShapedHead sub size → HasSoundIndex sub size →
    IsSoundIndex layout.sparse layout.lengths layout.blocks layout.span_bits layout size
sound_index sub layout size is head index = record {
  sparse_is = refl;
  lengths_are = refl;
  blocks_are = refl;
  span_bits_are = refl;
  shaped = (rw is at head).1;
  total = (rw is at index).0;
  entries = (rw is at index).1;
}

-- the steps of a look-up of value i, from the result of a walk and the words of the value's block
module _ (layout : Layout) (size count : ℕ) (bytes : ℕ → List ℕ) (shaped : IsShapedLayout layout size) (accepted : IsCode layout.code) (all : count ≡ layout.blocks)
    (whole : (k : ℕ) → k < layout.blocks → length (bytes k) ≡ 2 ^ layout.block_bits) (sound : IsSoundLayout layout (packed_blocks bytes count) size) where
  pub steps_are : (i j p moves words pairs : ℕ) → j < layout.blocks → j ≡ (block_location layout i).list → p ≡ (block_location layout i).item → moves ≡ move_count layout i
      → words ≡ (word_at layout.code layout.entries (bits (bytes j)) p).list + 1 → pairs ≡ pairs_above layout.code layout.entries (bits (bytes j)) p
      → (let s : Steps = record { moves = moves; words = words; descents = pairs; fetches = 1 } in s) ≡ steps_from (Some layout) (packed_blocks bytes count) i
  steps_are i j p moves words pairs there block item em ew ep =
      let b : block_at layout.block_bits (packed_blocks bytes count) j ≡ bytes j = block_is layout size count bytes shaped accepted all whole sound j there in
      rw (← block, ← item, b, word_count-at layout (bytes j) p, descent_count-at layout (bytes j) p, em, ew, ep) refl

-- the location, value and steps of value i in a subtable that is not constant
module _ (sub : Sub) (layout : Layout) (is : layout_of sub ≡ Some layout) (size count : ℕ) (bytes : ℕ → List ℕ) (head : IsShapedHead sub size) (accepted : IsCode layout.code)
    (all : IfSome (layout_of sub) (λ layout. count ≡ layout.blocks)) (whole : IfSome (layout_of sub) (λ layout. (k : ℕ) → k < layout.blocks → length (bytes k) ≡ 2 ^ layout.block_bits))
    (sound : IsSoundOver sub (packed_blocks bytes count) size) (i : ℕ) (below : i < size) (j p : ℕ)
    (block : IfSome (layout_of sub) (λ layout. j ≡ (block_location layout i).list)) (item : IfSome (layout_of sub) (λ layout. p ≡ (block_location layout i).item)) where
  pub is_value : IsValueAt layout (packed_blocks bytes count) size i j p (bytes j)
  is_value = value_at layout size count bytes (rw is at head).1 accepted (rw is at all) (rw is at whole) (rw is at sound) i j p below (rw is at block) (rw is at item)

  pub steps : (moves words pairs : ℕ) → IfSome (layout_of sub) (λ layout. moves ≡ move_count layout i)
      → words ≡ (word_at layout.code layout.entries (bits (bytes j)) p).list + 1 → pairs ≡ pairs_above layout.code layout.entries (bits (bytes j)) p
      → (let s : Steps = record { moves = moves; words = words; descents = pairs; fetches = 1 } in s) ≡ steps_from (Some layout) (packed_blocks bytes count) i
  steps moves words pairs em ew ep =
      steps_are layout size count bytes (rw is at head).1 accepted (rw is at all) (rw is at whole) (rw is at sound) i j p moves words pairs is_value.there (rw is at block) (rw is at item) (rw is at em) ew ep
