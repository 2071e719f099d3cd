-- Laws of layouts of which some block lengths are kept.
use Rattle.std.proofs.Common.{ℕ, suc, ◌≡◌, ◌+◌, ◌-◌, ◌*◌, ◌/◌, ◌^◌, ◌<◌, ◌≤◌, inl, inr, List, Option, Some, None, length, map, take, refl, ap, sym, ◌∙◌, subst, arith}
use Rattle.std.specs.Prelude.{IfSome, ◌⊎◌, nat_le}
use Rattle.std.specs.Option.{option_map}
use Rattle.std.specs.List.{flat_map, range_with_len, slice_get, slice_index, sum_by}
use Rattle.std.proofs.Math.Nat.{le-div_iff_mul-le}
use Rattle.std.proofs.lemmas.Bool.{cases_lt}
use Rattle.std.proofs.lemmas.Nat.{pow_pos}
use Rattle.std.proofs.lemmas.List.{length-map}
use Rattle.std.proofs.lemmas.Option.{get_or_from_slice_get, slice_get-map, slice_get_within}
use Rattle.szg_code.specs.Canonical.{CanonicalCode}
use Rattle.szg_block.specs.Block.{start, needed, block_at, block_values, HasValues}
use Rattle.szg_block.specs.Expansion.{needed_values, joined_values}
use Rattle.szg_block.specs.FirstFault.{spells_needed}
use Rattle.szg_block.specs.Indexed.{entry_of}
use Rattle.szg_block.specs.Kept.{kept_lengths, kept_layout, with_lengths, CanLocate, IsLocatable}
use Rattle.szg_block.specs.Laws.{KeptLengthsSuffice, SoundIsLocatable}
use Rattle.szg_block.specs.Layout.{Layout, SparseEntry}
use Rattle.szg_block.specs.Sound.{entry_count, middle_of_span, HasGoodEntry, HasTotal, IsGoodEntry, IsShapedLayout, IsSoundLayout, SpellsNeeded}
use Rattle.szg_block.specs.Parts.{HasKeptAt, IsGoodAt}
use Rattle.szg_block.specs.Steps.{block_location, entry_block, location_of, move_count}
use Rattle.szg_block.specs.Subtable.{layout_from, layout_of, HasSoundIndex, IsHeaded, IsShapedHead, IsSoundOver}
use Rattle.szg_block.specs.declared.Entry.{Entry}
use Rattle.szg_block.specs.declared.Sub.{Sub}
use Rattle.szg_block.proofs.ByEntry.{span_there}
use Rattle.szg_block.proofs.Kept.{start-end, kept_few, kept_location, kept_needed, kept_past, kept_start, kept_total}
use Rattle.szg_block.proofs.Values.{location_of-holder, start-le-total, start-monotone, start-zero}
use Rattle.szg_block.proofs.Walking.{one_block}

-- each value below the size is where it was
pub kept_block_location : (layout : Layout) (size i : ℕ) → i < size → block_location (kept_layout size layout) i ≡ block_location layout i
unfolding block_location
kept_block_location layout size i below = kept_location size layout.lengths i below

pub kept_lengths_suffice : KeptLengthsSuffice
kept_lengths_suffice layout size = (kept_few size layout.lengths, kept_needed size layout.lengths, kept_block_location layout size)

-- ---- values

same_values : (lengths : List ℕ) (layout : Layout) (block : List ℕ) (m : ℕ) (values : List ℕ) → HasValues layout block m values → HasValues (with_lengths lengths layout) block m values
same_values lengths layout block m values h = record { symbols = h.symbols; spelled = h.spelled; enough = h.enough; first = h.first }

values_same : (lengths : List ℕ) (layout : Layout) (block : List ℕ) (m : ℕ) (values : List ℕ) → HasValues (with_lengths lengths layout) block m values → HasValues layout block m values
values_same lengths layout block m values h = record { symbols = h.symbols; spelled = h.spelled; enough = h.enough; first = h.first }

pub kept_spelled : (layout : Layout) (size j : ℕ) (block : List ℕ) → SpellsNeeded layout size j block → SpellsNeeded (kept_layout size layout) size j block
kept_spelled layout size j block h =
    let kept : List ℕ = kept_lengths size layout.lengths in
    (h.0, same_values kept layout block (needed kept size j) h.0 (subst (λ (m : ℕ). HasValues layout block m h.0) (sym (kept_needed size layout.lengths j)) h.1))

pub spelled_kept : (layout : Layout) (size j : ℕ) (block : List ℕ) → SpellsNeeded (kept_layout size layout) size j block → SpellsNeeded layout size j block
spelled_kept layout size j block h =
    let kept : List ℕ = kept_lengths size layout.lengths in
    (h.0, subst (λ (m : ℕ). HasValues layout block m h.0) (kept_needed size layout.lengths j) (values_same kept layout block (needed kept size j) h.0 h.1))

pub kept_spells : (layout : Layout) (size j : ℕ) (block : List ℕ) → spells_needed (kept_layout size layout) size j block ≡ spells_needed layout size j block
unfolding spells_needed block_values
kept_spells layout size j block = λ i. nat_le (kept_needed size layout.lengths j i) (length (block_values layout block))

pub kept_joined : (layout : Layout) (packed : List ℕ) (size : ℕ) → joined_values (kept_layout size layout) packed size ≡ joined_values layout packed size
unfolding joined_values needed_values block_values
kept_joined layout packed size =
    λ i. flat_map (λ j. take (kept_needed size layout.lengths j i) (block_values layout (block_at layout.block_bits packed j))) (range_with_len 0 layout.blocks)

pub kept_block_values : (layout : Layout) (size : ℕ) (block : List ℕ) → block_values (kept_layout size layout) block ≡ block_values layout block
unfolding block_values
kept_block_values layout size block = refl

-- ---- the sparse index

-- only the last span has its middle at the size or after
pub middle_inside : (span_bits size j : ℕ) → suc j < entry_count span_bits size → middle_of_span span_bits j < size
unfolding entry_count middle_of_span
middle_inside span_bits size j h =
    let w : ℕ = 2 ^ span_bits in
    let p : 0 < w = pow_pos span_bits in
    let m : suc (suc j) * w ≤ size + w - 1 = (le-div_iff_mul-le p).0 h in
    let e : suc (suc j) * w ≡ j * w + w + w = omega arith in
    omega (arith, m, e, p)

kept_entry : (layout : Layout) (size : ℕ) → IsShapedLayout layout size → (j : ℕ) (o : Option SparseEntry) → slice_get layout.sparse j ≡ o → IfSome o (IsGoodEntry layout j) →
    IfSome o (λ entry. ((entry.block ≤ length (kept_lengths size layout.lengths)) × (start (kept_lengths size layout.lengths) entry.block + entry.offset ≡ middle_of_span layout.span_bits j))
    ⊎ ((length (kept_lengths size layout.lengths) < entry.block) × (suc j ≡ length layout.sparse)))
kept_entry layout size shaped j None is good = tt
kept_entry layout size shaped j (Some entry) is good =
    let count : ℕ = length (kept_lengths size layout.lengths) in
    elim (cases_lt count entry.block) [
      | inl past ↦
          let there : j < length layout.sparse = slice_get_within layout.sparse j entry is in
          let after : size ≤ start layout.lengths count = kept_past size layout.lengths (omega (arith, past, good.there, shaped.lengths)) in
          let on : start layout.lengths count ≤ start layout.lengths entry.block = start-monotone layout.lengths count entry.block (omega arith) (omega (arith, good.there, shaped.lengths)) in
          inr (
            past,
            elim (cases_lt (suc j) (entry_count layout.span_bits size)) [
              | inl inner ↦ absurd (omega (arith, middle_inside layout.span_bits size j inner, after, on, good.location))
              | inr last ↦ omega (arith, last, there, shaped.sparse)
            ],
          )
      | inr within ↦ inl (within, omega (arith, kept_start size layout.lengths entry.block within, good.location))
    ]

pub kept_locates : SoundIsLocatable
kept_locates layout size shaped total entries = record {
  span_bits = shaped.span_bits;
  sparse = shaped.sparse;
  total = kept_total size layout.lengths layout.blocks total;
  entries = λ j. kept_entry layout size shaped j (slice_get layout.sparse j) refl (entries j);
}

-- with all lengths too
whole_entry : (layout : Layout) (size : ℕ) → IsShapedLayout layout size → (j : ℕ) (o : Option SparseEntry) → IfSome o (IsGoodEntry layout j) →
    IfSome o (λ entry. ((entry.block ≤ length layout.lengths) × (start layout.lengths entry.block + entry.offset ≡ middle_of_span layout.span_bits j))
    ⊎ ((length layout.lengths < entry.block) × (suc j ≡ length layout.sparse)))
whole_entry layout size shaped j None good = tt
whole_entry layout size shaped j (Some entry) good = inl (omega (arith, good.there, shaped.lengths), good.location)

pub whole_locates : (layout : Layout) (size : ℕ) → IsShapedLayout layout size → HasTotal layout size → ((j : ℕ) → HasGoodEntry layout j) → CanLocate layout size
whole_locates layout size shaped total entries = record {
  span_bits = shaped.span_bits;
  sparse = shaped.sparse;
  total = total;
  entries = λ j. whole_entry layout size shaped j (slice_get layout.sparse j) (entries j);
}

locates_in : (size : ℕ) (o : Option Layout) → IfSome o (λ layout. IsShapedLayout layout size) → IfSome o (λ layout. HasTotal layout size × ((j : ℕ) → HasGoodEntry layout j)) → IfSome o (λ layout. CanLocate layout size)
locates_in size None shaped sound = tt
locates_in size (Some layout) shaped sound = whole_locates layout size shaped sound.0 sound.1

pub whole_is_locatable : (sub : Sub) (size : ℕ) → IsShapedHead sub size → HasSoundIndex sub size → IsLocatable sub size
whole_is_locatable sub size head index = locates_in size (layout_of sub) head.1 index

headed_in : (size : ℕ) (o : Option Layout) → IfSome o (λ layout. IsShapedLayout layout size) →
    IfSome o (λ layout. (layout.block_bits ≤ 18) × (1 ≤ layout.span_bits) × (layout.span_bits ≤ 31) × (layout.code.symbols ≡ length layout.entries))
headed_in size None shaped = tt
headed_in size (Some layout) shaped = (shaped.block_bits, shaped.some_span, shaped.span_bits, shaped.symbols)

pub shaped_is_headed : (sub : Sub) (size : ℕ) → IsShapedHead sub size → IsHeaded sub
shaped_is_headed sub size head = (head.0, headed_in size (layout_of sub) head.1)

index_of_sound : (o : Option Layout) (packed : List ℕ) (size : ℕ) → IfSome o (λ layout. IsSoundLayout layout packed size) → IfSome o (λ layout. HasTotal layout size × ((j : ℕ) → HasGoodEntry layout j))
index_of_sound None packed size sound = tt
index_of_sound (Some layout) packed size sound = (sound.total, sound.entries)

pub sound_is_locatable_over : (sub : Sub) (packed : List ℕ) (size : ℕ) → IsShapedHead sub size → IsSoundOver sub packed size → IsLocatable sub size
sound_is_locatable_over sub packed size head sound = whole_is_locatable sub size head (index_of_sound (layout_of sub) packed size sound)

-- ---- where value i is

-- a value below the size is before the end of the lengths
pub value_before_end : (layout : Layout) (size : ℕ) → HasTotal layout size → (i : ℕ) → i < size → i < start layout.lengths (length layout.lengths)
value_before_end layout size total i below =
    elim (cases_lt (length layout.lengths) layout.blocks) [
      | inl fewer ↦ let same = start-end layout.lengths layout.blocks (omega (arith, fewer)) in omega (arith, below, total, same)
      | inr more ↦ omega (arith, below, total, start-monotone layout.lengths layout.blocks (length layout.lengths) more (omega arith))
    ]

-- its block and its index there
pub located_at : (layout : Layout) (size : ℕ) → HasTotal layout size → (i : ℕ) → i < size → (j p n : ℕ) → slice_get layout.lengths j ≡ Some n → p ≤ n → i ≡ start layout.lengths j + p →
    (j ≡ (block_location layout i).list) × (p ≡ (block_location layout i).item)
unfolding block_location
located_at layout size total i below j p n some inside location =
    let lengths : List ℕ = layout.lengths in
    let whole : i < sum_by (λ n. n + 1) lengths = omega (arith, value_before_end layout size total i below, start-le-total lengths (length lengths)) in
    let h = location_of-holder lengths i whole in
    let there : j < length lengths = slice_get_within lengths j n some in
    let is_length : slice_index lengths j ≡ n = get_or_from_slice_get lengths j n 0 some in
    let b : (location_of (map (λ n. n + 1) lengths) i).list ≡ j = one_block lengths _ j _ p h.there there (sym h.is_at ∙ location) h.inside (omega (arith, is_length, inside)) in
    let s = ap (λ k. start lengths k) b in
    (sym b, omega (arith, h.is_at, location, s))

-- it is one of the blocks, and no extra length
pub located_below : (layout : Layout) (size : ℕ) → HasTotal layout size → (i : ℕ) → i < size → (j p n : ℕ) → slice_get layout.lengths j ≡ Some n → i ≡ start layout.lengths j + p → j < layout.blocks
located_below layout size total i below j p n some location =
    elim (cases_lt j layout.blocks) [
      | inl less ↦ less
      | inr more ↦
          let there : j < length layout.lengths = slice_get_within layout.lengths j n some in
          absurd (omega (arith, total, location, below, start-monotone layout.lengths layout.blocks j more (omega (arith, there))))
    ]

-- the moves to its block from that of the sparse entry
entry_block_of : (layout : Layout) (i : ℕ) (entry : SparseEntry) → slice_get layout.sparse (i / 2 ^ layout.span_bits) ≡ Some entry → entry_block layout i ≡ entry.block
unfolding entry_block
entry_block_of layout i entry is = rw is refl

pub moves_to : (layout : Layout) (i j : ℕ) (entry : SparseEntry) → slice_get layout.sparse (i / 2 ^ layout.span_bits) ≡ Some entry → j ≡ (block_location layout i).list →
    (entry.block - j) + (j - entry.block) ≡ move_count layout i
unfolding move_count
moves_to layout i j entry is at =
    ap (λ (k : ℕ). (entry.block - k) + (k - entry.block)) at
    ∙ ap (λ (b : ℕ). (b - (block_location layout i).list) + ((block_location layout i).list - b)) (sym (entry_block_of layout i entry is))

-- ---- over the parts of a subtable

-- the entry of a value's span, and the one before it
module _ (sparse : List Entry) (lengths : List ℕ) (span_bits i : ℕ) (kept : (j : ℕ) → HasKeptAt lengths span_bits sparse j) (entry : Entry) (is : slice_get sparse (i / 2 ^ span_bits) ≡ Some entry) where
  pub good_before : (j : ℕ) (before : Entry) → i / 2 ^ span_bits ≡ j + 1 → slice_get sparse j ≡ Some before → IsGoodAt lengths span_bits j before
  good_before j before next at =
      let there : i / 2 ^ span_bits < length sparse = slice_get_within sparse (i / 2 ^ span_bits) entry is in
      elim (rw at at (kept j)) [
        | inl good ↦ good
        | inr last ↦ absurd (omega (arith, last.1, next, there))
      ]

-- the middle of a span from the entry before, and that of the first span from block 0
pub middle_next : (lengths : List ℕ) (span_bits j : ℕ) (before : Entry) → IsGoodAt lengths span_bits j before →
    start lengths before.block + (before.offset + 2 ^ span_bits) ≡ middle_of_span span_bits (j + 1)
unfolding middle_of_span
middle_next lengths span_bits j before good =
    let w : ℕ = 2 ^ span_bits in
    let e : (j + 1) * w ≡ j * w + w = omega arith in
    omega (arith, e, good.1)

pub middle_first : (lengths : List ℕ) (span_bits : ℕ) → start lengths 0 + 2 ^ span_bits / 2 ≡ middle_of_span span_bits 0
unfolding middle_of_span
middle_first lengths span_bits = omega (arith, start-zero lengths)

kept_of_entry : (lengths : List ℕ) (span_bits : ℕ) (sparse : List Entry) (j : ℕ) (o : Option Entry) →
    IfSome (option_map entry_of o) (λ entry. ((entry.block ≤ length lengths) × (start lengths entry.block + entry.offset ≡ middle_of_span span_bits j))
    ⊎ ((length lengths < entry.block) × (suc j ≡ length (map entry_of sparse)))) →
    IfSome o (λ entry. IsGoodAt lengths span_bits j entry ⊎ ((length lengths < entry.block) × (suc j ≡ length sparse)))
kept_of_entry lengths span_bits sparse j None h = tt
kept_of_entry lengths span_bits sparse j (Some entry) h =
    elim h [
      | inl good ↦ inl good
      | inr last ↦ inr (last.0, last.1 ∙ length-map sparse entry_of)
    ]

module _ (block_bits span_bits extra blocks : ℕ) (code : CanonicalCode) (dict : List (List ℕ)) (sparse : List Entry) (lengths : List ℕ) (size : ℕ)
    (can : CanLocate (layout_from block_bits span_bits extra blocks code dict sparse lengths) size) where
  pub kept_entries : (j : ℕ) → HasKeptAt lengths span_bits sparse j
  kept_entries j = kept_of_entry lengths span_bits sparse j (slice_get sparse j) (rw (slice_get-map entry_of sparse j) at (can.entries j))

  pub span_entry : (i : ℕ) → i < size → i / 2 ^ span_bits < length sparse
  span_entry i below = omega (arith, span_there span_bits size i below, can.sparse, length-map sparse entry_of)
