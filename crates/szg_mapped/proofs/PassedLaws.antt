-- Blocks that have passed: bits that are set, and what a noted block spells.
use Rattle.std.proofs.Common.{◌≡◌, ℕ, ◌+◌, ◌*◌, ◌/◌, ◌%◌, ◌^◌, ◌<◌, ◌≤◌, ◌⊎◌, inl, inr, List, [], ◌∷◌, ◌++◌, zero, suc, length, get_or, take, replicate, ◌-◌, refl, sym, ap, subst, ◌∙◌, arith, Option, Some, bit_or, w64, Vec, Global}
use Rattle.std.specs.Prelude.{IfSome, IsSomeAnd, slice_get, slice_index, slice_set, Result, Ok, Err, is_ok, if◌then◌else◌}
use Rattle.std.specs.Int.{bit_at}
use Rattle.std.proofs.lemmas.Bool.{cases_eq}
use Rattle.std.proofs.lemmas.Option.{slice_get_read}
use Rattle.std.proofs.lemmas.List.{get_or-set_same, get_or-set_other, take_all}
use Rattle.std.proofs.lemmas.Nat.Bits.{bit_at-zero, bit_at_set_same, bit_at_set_other}
use Rattle.szg_block.specs.Block.{block_at}
use Rattle.szg_block.specs.BlocksTrait.{bytes_at}
use Rattle.szg_block.specs.Sound.{SpellsNeeded}
use Rattle.szg_block.specs.Steps.{block_location}
use Rattle.szg_block.specs.Subtable.{layout_of}
use Rattle.szg_block.specs.declared.Sub.{Sub}
use Rattle.szg_block.specs.declared.Sub.TheVariants.{Constant, Pairs}
use Rattle.szg_file.specs.Contents.{Slot, Subtable}
use Rattle.szg_file.specs.Fetching.{IsSpot}
use Rattle.szg_file.specs.Index.{Index}
use Rattle.szg_mapped.specs.Passed.{ArePassed, BlockPasses, IsNoted, IsSet}
use Rattle.szg_file.specs.Placed.{whole_sub}
use Rattle.szg_file.specs.Unread.{front_at}
use Rattle.szg_mapped.specs.declared.passed.Passed.{Passed}
use Rattle.szg_file.specs.declared.opened.fetching.BlockSpot.{BlockSpot}
use Rattle.szg_file.proofs.Openings.FrontFinds.{block_is_at}
use Rattle.szg_file.proofs.Readers.PlacedSubs.{placed_at}

-- ---- bits

zeros_read : (r k : ℕ) → slice_index (replicate r 0) k ≡ 0
zeros_read zero k = refl
zeros_read (suc r) zero = refl
zeros_read (suc r) (suc k) = zeros_read r k

-- zeros after the last word change no bit
pub zeros_after : (xs : List ℕ) (r k : ℕ) → slice_index (xs ++ replicate r 0) k ≡ slice_index xs k
zeros_after [] r k = zeros_read r k
zeros_after (x ∷ xs) r zero = refl
zeros_after (x ∷ xs) r (suc k) = zeros_after xs r k

-- words that were extended with zeros, or could not be, have the same bits
pub extended : {E : Type 0} (r : Result (Unit {0}) E) (old new : List ℕ) (size len k : ℕ) → len ≡ length old → len ≤ size →
    new ≡ (if is_ok r then take size old ++ replicate (size - len) 0 else old) → slice_index new k ≡ slice_index old k
extended (Ok x) old new size len k same more is =
    ap (λ (ws : List ℕ). slice_index ws k) (is ∙ ap (λ (ws : List ℕ). ws ++ replicate (size - len) 0) (take_all size old (omega (arith, same, more)))) ∙ zeros_after old (size - len) k
extended (Err e) old new size len k same more is = ap (λ (ws : List ℕ). slice_index ws k) is

module _ (words : List ℕ) (n : ℕ) (there : n / 64 < length words) where
  -- the words with bit n set
  abbrev one_set : List ℕ
  one_set = slice_set words (n / 64) (bit_or (slice_index words (n / 64)) (1 * 2 ^ (n % 64) % 2 ^ 64))

  short : n % 64 < 64
  short = omega arith

  pub is_now_set : IsSet one_set n
  is_now_set =
      ap (λ (b : ℕ). bit_at b (n % 64)) (get_or-set_same words (n / 64) _ 0 there) ∙ bit_at_set_same w64 (slice_index words (n / 64)) (n % 64) short

  pub was_set : (m : ℕ) → IsSet one_set m → IsSet words m ⊎ (m ≡ n)
  was_set m h = elim (cases_eq (m / 64) (n / 64)) [
    | inr other ↦ inl (ap (λ (b : ℕ). bit_at b (m % 64)) (sym (get_or-set_other words (n / 64) (m / 64) _ 0 other)) ∙ h)
    | inl same ↦ elim (cases_eq (m % 64) (n % 64)) [
      | inl bit ↦ inr (omega (arith, same, bit))
      | inr other ↦
          let now : bit_at (bit_or (slice_index words (n / 64)) (1 * 2 ^ (n % 64) % 2 ^ 64)) (m % 64) ≡ 1 =
          ap (λ (b : ℕ). bit_at b (m % 64)) (sym (ap (λ (k : ℕ). slice_index one_set k) same ∙ get_or-set_same words (n / 64) _ 0 there)) ∙ h in
          inl (ap (λ (k : ℕ). bit_at (slice_index words k) (m % 64)) same ∙ sym (bit_at_set_other w64 (slice_index words (n / 64)) (n % 64) short (m % 64) other) ∙ now)
    ]
  ]

-- ---- sets of bits

-- a bit that is set in the bits of a side is that of a noted block
pub noted_by : (passed : Passed) (part side n place : ℕ) (set : Vec ℕ Global) → place ≡ 2 * part + side → side < 2 → place < length passed.sets → set ≡ get_or passed.sets place set → IsSet set.items n → IsNoted passed part side n
noted_by passed part side n place set is two there at h =
    let here : slice_get passed.sets place ≡ Some set = slice_get_read passed.sets (length passed.sets) place set refl there at in
    (two, subst (λ (k : ℕ). IsSomeAnd (slice_get passed.sets k) (λ (s : Vec ℕ Global). IsSet s.items n)) is (subst (λ (o : Option (Vec ℕ Global)). IsSomeAnd o (λ (s : Vec ℕ Global). IsSet s.items n)) (sym here) h))

-- no bit is set in bytes that are not there
abbrev pub AreEmpty : List (Vec ℕ Global) → Type 0
AreEmpty [] = Unit {0}
AreEmpty (set ∷ sets) = (set.items ≡ []) × AreEmpty sets

pub none_noted : (sets : List (Vec ℕ Global)) → AreEmpty sets → (k n : ℕ) → IsSomeAnd (slice_get sets k) (λ (set : Vec ℕ Global). IsSet set.items n) → ⊥
none_noted [] empty k n h = h
none_noted (set ∷ sets) empty zero n h =
    let set_in_none : IsSet [] n = subst (λ (words : List ℕ). IsSet words n) empty.0 h in
    omega (arith, set_in_none, bit_at-zero (n % 64))
none_noted (set ∷ sets) empty (suc k) n h = none_noted sets empty.1 k n h

-- ---- a noted block

module _ (slot : Slot) (content : List ℕ) (sub : Sub) (first i : ℕ) (spot : BlockSpot) (block : List ℕ) (is : block ≡ bytes_at content spot.offset spot.count) where
  -- the block of a location that has passed spells what it needs
  pub passed_spells : IsSpot (placed_at sub first) i spot → BlockPasses (slot, whole_sub content (placed_at sub first)) spot.value.block →
      IfSome (layout_of sub) (λ layout. SpellsNeeded layout slot.size (block_location layout i).list block)
  passed_spells h passes = of sub h passes where
    of : (sub : Sub) → IsSpot (placed_at sub first) i spot → BlockPasses (slot, whole_sub content (placed_at sub first)) spot.value.block →
        IfSome (layout_of sub) (λ layout. SpellsNeeded layout slot.size (block_location layout i).list block)
    of (Constant flags byte) h passes = tt
    of (Pairs flags block_bits span_bits extra blocks code dict sparse lengths packed) h passes =
        let sub : Sub = Pairs flags block_bits span_bits extra blocks code dict sparse lengths packed in
        let here : block ≡ block_at block_bits (bytes_at content first (blocks * 2 ^ block_bits)) spot.value.block =
        is ∙ ap (λ (k : ℕ). bytes_at content k spot.count) h.offset ∙ ap (λ (k : ℕ). bytes_at content (first + spot.value.block * 2 ^ block_bits) k) h.count ∙ sym (block_is_at block_bits blocks first spot.value.block content h.there) in
        subst (λ (n : ℕ). IfSome (layout_of sub) (λ layout. SpellsNeeded layout slot.size n block)) h.block
        (subst (λ (z : List ℕ). IfSome (layout_of sub) (λ layout. SpellsNeeded layout slot.size spot.value.block z)) (sym here) passes)

  -- and a block that spells what it needs passes
  pub spells_passed : IsSpot (placed_at sub first) i spot → IfSome (layout_of sub) (λ layout. SpellsNeeded layout slot.size (block_location layout i).list block) →
      BlockPasses (slot, whole_sub content (placed_at sub first)) spot.value.block
  spells_passed h spells = of sub h spells where
    of : (sub : Sub) → IsSpot (placed_at sub first) i spot → IfSome (layout_of sub) (λ layout. SpellsNeeded layout slot.size (block_location layout i).list block) →
        BlockPasses (slot, whole_sub content (placed_at sub first)) spot.value.block
    of (Constant flags byte) h spells = tt
    of (Pairs flags block_bits span_bits extra blocks code dict sparse lengths packed) h spells =
        let sub : Sub = Pairs flags block_bits span_bits extra blocks code dict sparse lengths packed in
        let here : block ≡ block_at block_bits (bytes_at content first (blocks * 2 ^ block_bits)) spot.value.block =
        is ∙ ap (λ (k : ℕ). bytes_at content k spot.count) h.offset ∙ ap (λ (k : ℕ). bytes_at content (first + spot.value.block * 2 ^ block_bits) k) h.count ∙ sym (block_is_at block_bits blocks first spot.value.block content h.there) in
        subst (λ (z : List ℕ). IfSome (layout_of sub) (λ layout. SpellsNeeded layout slot.size spot.value.block z)) here
        (subst (λ (n : ℕ). IfSome (layout_of sub) (λ layout. SpellsNeeded layout slot.size n block)) (sym h.block) spells)

-- a located block is one of the subtable's
pub spot_counted : (sub : Sub) (first i count : ℕ) (spot : BlockSpot) → IsSpot (placed_at sub first) i spot → IfSome (layout_of sub) (λ layout. count ≡ layout.blocks) → spot.value.block < count
spot_counted (Constant flags byte) first i count spot h is = absurd h
spot_counted (Pairs flags block_bits span_bits extra blocks code dict sparse lengths packed) first i count spot h is = let there = h.there in omega (arith, there, is)

-- one more block that passes is noted
pub one_more_passed : (index : Index) (content : List ℕ) (old new : Passed) (part side block : ℕ) (found : Slot × Subtable) → ArePassed index content old →
    front_at index.material index.kind content part side ≡ Some found → BlockPasses found block →
    ((p s n : ℕ) → IsNoted new p s n → IsNoted old p s n ⊎ ((p ≡ part) × (s ≡ side) × (n ≡ block))) → ArePassed index content new
one_more_passed index content old new part side block found before at passes noted = λ p s n now. elim (noted p s n now) [
  | inl was ↦ before p s n was
  | inr (ep, es, en) ↦
      let P : Option (Slot × Subtable) → Type 0 = λ o. IfSome o (λ f. BlockPasses f n) in
      let here : BlockPasses found n = subst (λ (k : ℕ). BlockPasses found k) (sym en) passes in
      let place : front_at index.material index.kind content p s ≡ Some found =
      ap (λ (q : ℕ). front_at index.material index.kind content q s) ep ∙ ap (λ (q : ℕ). front_at index.material index.kind content part q) es ∙ at in
      subst P (sym place) here
]
