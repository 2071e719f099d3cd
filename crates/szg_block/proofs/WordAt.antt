-- The word that contains a value, found by decoding word after word.
use Rattle.std.proofs.Common.{ℕ, suc, ◌≡◌, ◌+◌, ◌-◌, ◌<◌, ◌≤◌, List, ◌∷◌, length, map, refl, ap, ◌∙◌}
use Rattle.std.specs.List.{slice_index}
use Rattle.std.proofs.lemmas.Bool.{lt-ltb, le-ltb}
use Rattle.szg_pairs.specs.Expansion.{expansion_of, depths_of}
use Rattle.szg_code.specs.Bits.{bits}
use Rattle.szg_code.specs.Canonical.{CanonicalCode}
use Rattle.szg_code.specs.Acceptance.{IsCode}
use Rattle.szg_code.specs.Spelling.{symbols_spelled}
use Rattle.szg_code.specs.Cursor.{Cursor, TakesWord}
use Rattle.szg_block.specs.Layout.{Layout}
use Rattle.szg_block.specs.Spelled.{word_at, pairs_above}
use Rattle.szg_block.specs.Steps.{Location, location_in, location_of, word_location, word_count, descent_count}
use Rattle.szg_block.proofs.Spelling.{symbols_spelled-word}

location_of-here : (n : ℕ) (ns : List ℕ) (i : ℕ) → i < n → location_of (n ∷ ns) i ≡ record { list = 0; item = i }
unfolding location_of
location_of-here n ns i h = ap (λ b. location_in b i (location_of ns (i - n))) (lt-ltb i n h)

location_of-rest_location : (n : ℕ) (ns : List ℕ) (i : ℕ) → n ≤ i → location_of (n ∷ ns) i ≡ record { list = suc (location_of ns (i - n)).list; item = (location_of ns (i - n)).item }
unfolding location_of
location_of-rest_location n ns i h = ap (λ b. location_in b i (location_of ns (i - n))) (le-ltb i n h)

module _ (code : CanonicalCode) (accepted : IsCode code) (entries : List (List ℕ)) (old new : Cursor) (s : ℕ) (h : TakesWord code old new s) where
  first_word : symbols_spelled code old.left ≡ s ∷ symbols_spelled code new.left
  first_word = symbols_spelled-word code accepted old.left new.left s (record { word = h.word; is_one = h.is_one; joined = h.left })

  word_at-first : (p : ℕ) → word_at code entries old.left p ≡ location_of (length (expansion_of entries s) ∷ map (λ s. length (expansion_of entries s)) (symbols_spelled code new.left)) p
  unfolding word_at
  word_at-first p = ap (λ u. location_of (map (λ s. length (expansion_of entries s)) u) p) first_word

  -- the value is in the first word
  pub word_at-here : (p : ℕ) → p < length (expansion_of entries s) → (word_at code entries old.left p).list ≡ 0
  word_at-here p l = ap (λ (w : Location). w.list) (word_at-first p ∙ location_of-here (length (expansion_of entries s)) (map (λ s. length (expansion_of entries s)) (symbols_spelled code new.left)) p l)

  pub pairs_above-here : (p : ℕ) → p < length (expansion_of entries s) → pairs_above code entries old.left p ≡ slice_index (depths_of entries s) p
  unfolding pairs_above
  pairs_above-here p l =
      let e : word_at code entries old.left p ≡ record { list = 0; item = p } = word_at-first p ∙ location_of-here (length (expansion_of entries s)) (map (λ s. length (expansion_of entries s)) (symbols_spelled code new.left)) p l in
      ap (λ (w : Location). slice_index (depths_of entries (slice_index (symbols_spelled code old.left) w.list)) w.item) e
      ∙ ap (λ u. slice_index (depths_of entries (slice_index u 0)) p) first_word

  -- the value is in a word after the first
  word_at-after_is : (p : ℕ) → length (expansion_of entries s) ≤ p → word_at code entries old.left p ≡ record { list = suc (word_at code entries new.left (p - length (expansion_of entries s))).list; item = (word_at code entries new.left (p - length (expansion_of entries s))).item }
  unfolding word_at
  word_at-after_is p l = unfold word_at in (word_at-first p ∙ location_of-rest_location (length (expansion_of entries s)) (map (λ s. length (expansion_of entries s)) (symbols_spelled code new.left)) p l)

  pub word_at-rest_location : (p : ℕ) → length (expansion_of entries s) ≤ p → (word_at code entries old.left p).list ≡ suc (word_at code entries new.left (p - length (expansion_of entries s))).list
  word_at-rest_location p l = ap (λ (w : Location). w.list) (word_at-after_is p l)

  pub pairs_above-rest_location : (p : ℕ) → length (expansion_of entries s) ≤ p → pairs_above code entries old.left p ≡ pairs_above code entries new.left (p - length (expansion_of entries s))
  unfolding pairs_above
  pairs_above-rest_location p l =
      let q : ℕ = p - length (expansion_of entries s) in
      ap (λ (w : Location). slice_index (depths_of entries (slice_index (symbols_spelled code old.left) w.list)) w.item) (word_at-after_is p l)
      ∙ ap (λ u. slice_index (depths_of entries (slice_index u (suc (word_at code entries new.left q).list))) (word_at code entries new.left q).item) first_word

-- the words and the descents of a value of a block
pub word_count-at : (layout : Layout) (block : List ℕ) (p : ℕ) → word_count layout block p ≡ (word_at layout.code layout.entries (bits block) p).list + 1
unfolding word_count word_location word_at
word_count-at layout block p = refl

pub descent_count-at : (layout : Layout) (block : List ℕ) (p : ℕ) → descent_count layout block p ≡ pairs_above layout.code layout.entries (bits block) p
unfolding descent_count word_location word_at pairs_above
descent_count-at layout block p = refl
