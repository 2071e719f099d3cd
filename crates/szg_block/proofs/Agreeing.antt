-- Subtables that agree in what a look-up reads.
use Rattle.std.proofs.Common.{ℕ, ◌≡◌, ◌+◌, ◌-◌, ◌/◌, ◌^◌, List, map, length, ap, sym, ◌∙◌}
use Rattle.std.specs.List.{flat_map, slice_get, slice_index}
use Rattle.std.specs.Option.{option_map_or}
use Rattle.szg_code.specs.Bits.{bits}
use Rattle.szg_code.specs.Spelling.{symbols_spelled}
use Rattle.szg_pairs.specs.Expansion.{expansion_of, depths_of}
use Rattle.szg_block.specs.Layout.{Layout, SparseEntry}
use Rattle.szg_block.specs.Block.{block_at, block_values}
use Rattle.szg_block.specs.Steps.{Location, location_of, block_location, entry_block, move_count, word_location, word_count, descent_count}
use Rattle.szg_block.specs.Laws.{SameBlockSameValue}
use Rattle.szg_block.specs.declared.probing.Steps.{Steps}
use Rattle.szg_block.proofs.Values.{joined_values-block_location}

same_location : (one other : Layout) → other.lengths ≡ one.lengths → (i : ℕ) → block_location other i ≡ block_location one i
unfolding block_location
same_location one other e i = ap (λ lengths. location_of (map (λ n. n + 1) lengths) i) e

same_entry : (one other : Layout) (i : ℕ) → slice_get other.sparse (i / 2 ^ other.span_bits) ≡ slice_get one.sparse (i / 2 ^ one.span_bits) → entry_block other i ≡ entry_block one i
unfolding entry_block
same_entry one other i e = ap (λ entry. option_map_or (λ (entry : SparseEntry). entry.block) entry 0) e

same_moves : (one other : Layout) (i : ℕ) → entry_block other i ≡ entry_block one i → block_location other i ≡ block_location one i → move_count other i ≡ move_count one i
unfolding move_count
same_moves one other i e p =
    ap (λ k. (k - (block_location other i).list) + ((block_location other i).list - k)) e
    ∙ ap (λ (location : Location). (entry_block one i - location.list) + (location.list - entry_block one i)) p

module _ (one other : Layout) (entries : other.entries ≡ one.entries) (code : other.code ≡ one.code) (block : List ℕ) where
  same_values : block_values other block ≡ block_values one block
  unfolding block_values
  same_values =
      ap (λ dict. flat_map (expansion_of dict) (symbols_spelled other.code (bits block))) entries
      ∙ ap (λ words. flat_map (expansion_of one.entries) (symbols_spelled words (bits block))) code

  same_word : (p : ℕ) → word_location other block p ≡ word_location one block p
  unfolding word_location
  same_word p =
      ap (λ dict. location_of (map (λ s. length (expansion_of dict s)) (symbols_spelled other.code (bits block))) p) entries
      ∙ ap (λ words. location_of (map (λ s. length (expansion_of one.entries s)) (symbols_spelled words (bits block))) p) code

  same_words : (p : ℕ) → word_count other block p ≡ word_count one block p
  unfolding word_count
  same_words p = ap (λ (location : Location). location.list + 1) (same_word p)

  same_descents : (p : ℕ) → descent_count other block p ≡ descent_count one block p
  unfolding descent_count
  same_descents p =
      ap (λ (location : Location). slice_index (depths_of other.entries (slice_index (symbols_spelled other.code (bits block)) location.list)) location.item) (same_word p)
      ∙ ap (λ dict. slice_index (depths_of dict (slice_index (symbols_spelled other.code (bits block)) (word_location one block p).list)) (word_location one block p).item) entries
      ∙ ap (λ words. slice_index (depths_of one.entries (slice_index (symbols_spelled words (bits block)) (word_location one block p).list)) (word_location one block p).item) code

pub same_result : SameBlockSameValue
same_result one other packed other_packed size other_size accepted shaped sound other_shaped other_sound lengths entries code i below other_below entry block =
    let location : block_location other i ≡ block_location one i = same_location one other lengths i in
    let b : block_at other.block_bits other_packed (block_location other i).list ≡ block_at one.block_bits packed (block_location one i).list =
    ap (λ (location : Location). block_at other.block_bits other_packed location.list) location ∙ block in
    let here = joined_values-block_location one packed size accepted shaped sound i below in
    let there = joined_values-block_location other other_packed other_size (rw code accepted) other_shaped other_sound i other_below in
    let values = same_values one other entries code (block_at one.block_bits packed (block_location one i).list) in
    let moves = same_moves one other i (same_entry one other i entry) location in
    let words = ap (λ (location : Location). word_count other (block_at other.block_bits other_packed location.list) location.item) location
    ∙ ap (λ bytes. word_count other bytes (block_location one i).item) block
    ∙ same_words one other entries code (block_at one.block_bits packed (block_location one i).list) (block_location one i).item in
    let descents = ap (λ (location : Location). descent_count other (block_at other.block_bits other_packed location.list) location.item) location
    ∙ ap (λ bytes. descent_count other bytes (block_location one i).item) block
    ∙ same_descents one other entries code (block_at one.block_bits packed (block_location one i).list) (block_location one i).item in
    let steps : ℕ → ℕ → ℕ → Steps = λ (x : ℕ) (y : ℕ) (z : ℕ). record { moves = x; words = y; descents = z; fetches = 1 } in
    let value : slice_get (block_values other (block_at other.block_bits other_packed (block_location other i).list)) (block_location other i).item
    ≡ slice_get (block_values one (block_at one.block_bits packed (block_location one i).list)) (block_location one i).item =
    ap (λ bytes. slice_get (block_values other bytes) (block_location other i).item) b
    ∙ ap (λ list. slice_get list (block_location other i).item) values
    ∙ ap (λ (location : Location). slice_get (block_values one (block_at one.block_bits packed (block_location one i).list)) location.item) location in (
      there ∙ value ∙ sym here,
      ap (λ x. steps x (word_count other (block_at other.block_bits other_packed (block_location other i).list) (block_location other i).item) (descent_count other (block_at other.block_bits other_packed (block_location other i).list) (block_location other i).item)) moves
          ∙ ap (λ y. steps (move_count one i) y (descent_count other (block_at other.block_bits other_packed (block_location other i).list) (block_location other i).item)) words
          ∙ ap (λ z. steps (move_count one i) (word_count one (block_at one.block_bits packed (block_location one i).list) (block_location one i).item) z) descents,
    )
